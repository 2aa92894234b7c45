-- What holds where an event goes on: by what was found.
use Rattle.std.proofs.Common.{◌≡◌, ℕ, ◌+◌, ◌<◌, ◌==◌, Bool, true, false, List, [], ◌∷◌, Option, None, Some, length, refl, sym, ap, subst, ◌∙◌, arith}
use Rattle.std.specs.Prelude.{Result, Ok, Err, not, nat_lt, IsSomeAnd, if◌then◌else◌}
use Rattle.std.specs.BTreeMap.{is_at}
use Rattle.std.specs.Cmp.{Equal-is}
use Rattle.std.specs.Cmp.Lexicographic.{bytes_decides}
use Rattle.std.specs.List.{AllByRecursion}
use Rattle.std.proofs.lemmas.Bool.{ltb-true}
use Rattle.pb_base.specs.Names.{is_name, same_name}
use Rattle.pb_base.specs.Results.{and_then}
use Rattle.desk_words.specs.declared.order_words.OrderWords.{OrderWords}
use Rattle.desk_words.specs.declared.reply.Reply.{Reply}
use Rattle.desk_words.specs.declared.reply.Reply.TheVariants as reply
use Rattle.desk_words.specs.declared.reply.FullOf.TheVariants as full
use Rattle.order_desk.specs.declared.answer.Answer.{Answer}
use Rattle.order_desk.specs.declared.answer.Answer.TheVariants as answer
use Rattle.order_desk.specs.declared.draft.Draft.{Draft}
use Rattle.order_desk.specs.declared.kept_book.KeptBook.{KeptBook}
use Rattle.order_desk.specs.declared.limits.TheConstants.{MOST_BOOKS, MOST_DRAFTS, MOST_ORDERS, MOST_REVISION}
use Rattle.order_desk.specs.declared.order_key.OrderKey.{OrderKey}
use Rattle.order_desk.specs.Effect.{Effect, says, keeps, go_on, owned, next_of, next_draft, to_release, unless_released, book_of, withdraw, shows_kept, same_order, unless_kept, to_place}
use Rattle.order_desk.specs.Fits.{IsPut}
use Rattle.order_desk.specs.History.{Stays, IsLaterDraft}
use Rattle.order_desk.specs.Step.{Shows}
use Rattle.order_desk.specs.Tables.{Tables, by_name, draft_at, book_at, order_at, released_as, with_withdrawn}
use Rattle.order_desk.specs.Valid.{IsDraft, IsValid}
use Rattle.order_desk.proofs.Growth.{next_later, draft_there, book_there, handed_over}
use Rattle.order_desk.proofs.Keys.{by_name_exact}

-- ---- a put

next_form_of : (o : Option Draft) (t : Tables) (caller name text : List ℕ) (d : Draft) → IsPut caller name text → next_of o t caller text ≡ Ok d
    → IsDraft name d
next_form_of None t caller name text d put is = by (nat_lt (length t.drafts) MOST_DRAFTS) is
  where
    New : Draft
    New = record { owner = caller; revision = 1; text = text }

    form : IsDraft name New
    form = record { draft_name = put.draft_name; owner_name = put.caller_name; least = omega arith; most = omega arith; size = put.size }

    by : (b : Bool) → (if b then Ok New else Err (reply.Full full.Drafts)) ≡ Ok d → IsDraft name d
    by true h = let same : New ≡ d = cc in subst (IsDraft name) same form
    by false h = cc
next_form_of (Some old) t caller name text d put is = by (same_name old.owner caller) refl (nat_lt old.revision MOST_REVISION) refl is
  where
    Next : Draft
    Next = record old { revision = old.revision + 1; text = text }

    by : (own : Bool) → same_name old.owner caller ≡ own → (below : Bool) → nat_lt old.revision MOST_REVISION ≡ below
        → (if not own then Err (reply.NotOwner old.owner) else if below then Ok Next else Err (reply.Full full.Revisions)) ≡ Ok d → IsDraft name d
    by false own below less h = cc
    by true own false less h = cc
    by true own true less h =
        let same : Next ≡ d = cc in
        let owner : old.owner ≡ caller = (bytes_decides old.owner caller).0 own in
        let room : old.revision < MOST_REVISION = ltb-true old.revision MOST_REVISION less in
        subst (IsDraft name) same (record {
          draft_name = put.draft_name;
          owner_name = subst (λ n. is_name n ≡ true) (sym owner) put.caller_name;
          least = omega arith;
          most = omega (arith, room);
          size = put.size;
        })

pub next_form : (t : Tables) (caller name text : List ℕ) (d : Draft) → IsPut caller name text → Ok d ≡ next_draft t caller name text → IsDraft name d
unfolding next_draft
next_form t caller name text d put is = next_form_of (draft_at t.drafts name) t caller name text d put (sym is)

next_room_of : (o : Option Draft) (t : Tables) (caller text : List ℕ) (d : Draft) → next_of o t caller text ≡ Ok d → o ≡ None
    → length t.drafts < MOST_DRAFTS
next_room_of None t caller text d is none = by (nat_lt (length t.drafts) MOST_DRAFTS) refl is
  where
    by : (b : Bool) → nat_lt (length t.drafts) MOST_DRAFTS ≡ b
        → (if b then Ok (record { owner = caller; revision = 1; text = text }) else Err (reply.Full full.Drafts)) ≡ Ok d → length t.drafts < MOST_DRAFTS
    by true less h = ltb-true (length t.drafts) MOST_DRAFTS less
    by false less h = cc
next_room_of (Some old) t caller text d is none = cc

pub next_room : (t : Tables) (caller name text : List ℕ) (d : Draft) → Ok d ≡ next_draft t caller name text → draft_at t.drafts name ≡ None
    → length t.drafts < MOST_DRAFTS
unfolding next_draft
next_room t caller name text d is none = next_room_of (draft_at t.drafts name) t caller text d (sym is) none

pub next_is_later : (t : Tables) (caller name text : List ℕ) (d : Draft) → Ok d ≡ next_draft t caller name text
    → Stays IsLaterDraft (draft_at t.drafts name) (Some d)
unfolding next_draft
next_is_later t caller name text d is = next_later t caller text (draft_at t.drafts name) d (sym is)

-- ---- a draft that is handed over

draft_form : (name : List ℕ) (drafts : List (List ℕ × Draft)) (d : Draft) → AllByRecursion (λ e. IsDraft e.0 e.1) drafts
    → draft_at drafts name ≡ Some d → IsDraft name d
draft_form name [] d all is = cc
draft_form name (e ∷ es) d all is = by (is_at (by_name name) e.0) refl is (draft_form name es d all.1)
  where
    by : (b : Bool) → is_at (by_name name) e.0 ≡ b → (if b then Some e.1 else draft_at es name) ≡ Some d → (draft_at es name ≡ Some d → IsDraft name d)
        → IsDraft name d
    by true at h later =
        let same : e.1 ≡ d = cc in
        let key : name ≡ e.0 = by_name_exact name e.0 ((Equal-is (by_name name e.0)).0 at) in
        subst (IsDraft name) same (subst (λ n. IsDraft n e.1) (sym key) all.0)
    by false at h later = later h

pub given_form : (t : Tables) (caller name to : List ℕ) (d : Draft) → IsValid t → is_name to ≡ true → owned t caller name ≡ Ok d
    → IsDraft name (record d { owner = to })
given_form t caller name to d valid named is =
    let form : IsDraft name d = draft_form name t.drafts d valid.drafts (draft_there t caller name d is) in
    record { draft_name = form.draft_name; owner_name = named; least = form.least; most = form.most; size = form.size }

pub given_room : (t : Tables) (caller name : List ℕ) (d : Draft) → owned t caller name ≡ Ok d → draft_at t.drafts name ≡ None
    → length t.drafts < MOST_DRAFTS
given_room t caller name d is none = let there : draft_at t.drafts name ≡ Some d = draft_there t caller name d is in cc

pub given_is_later : (t : Tables) (caller name to : List ℕ) (d : Draft) → owned t caller name ≡ Ok d
    → Stays IsLaterDraft (draft_at t.drafts name) (Some (record d { owner = to }))
given_is_later t caller name to d is =
    subst (λ o. Stays IsLaterDraft o (Some (record d { owner = to }))) (sym (draft_there t caller name d is)) (handed_over d to)

-- ---- a release

pub release_room : (t : Tables) (caller name : List ℕ) (revision : ℕ) (d : Draft) → to_release t caller name revision ≡ Ok d
    → (length t.books < MOST_BOOKS) × (released_as t.books name revision ≡ None)
unfolding to_release
release_room t caller name revision d is = by (owned t caller name) is
  where
    by_room : (b : Bool) (e : Draft) → nat_lt (length t.books) MOST_BOOKS ≡ b → (if b then Ok e else Err (reply.Full full.Books)) ≡ Ok d
        → length t.books < MOST_BOOKS
    by_room true e less h = ltb-true (length t.books) MOST_BOOKS less
    by_room false e less h = cc

    by_number : (o : Option ℕ) (e : Draft) → released_as t.books name revision ≡ o → unless_released o t e ≡ Ok d
        → (length t.books < MOST_BOOKS) × (released_as t.books name revision ≡ None)
    by_number (Some number) e none h = cc
    by_number None e none h = (by_room (nat_lt (length t.books) MOST_BOOKS) e refl h, none)

    by_revision : (b : Bool) (e : Draft)
        → (if b then unless_released (released_as t.books name revision) t e else Err (reply.Changed e.revision)) ≡ Ok d
        → (length t.books < MOST_BOOKS) × (released_as t.books name revision ≡ None)
    by_revision true e h = by_number (released_as t.books name revision) e refl h
    by_revision false e h = cc

    by : (r : Result Draft Reply)
        → and_then r (λ draft. if draft.revision == revision then unless_released (released_as t.books name revision) t draft
        else Err (reply.Changed draft.revision)) ≡ Ok d
        → (length t.books < MOST_BOOKS) × (released_as t.books name revision ≡ None)
    by (Err said) h = cc
    by (Ok e) h = by_revision (e.revision == revision) e h

-- ---- a book that is withdrawn

pub book_in_force : (t : Tables) (number : ℕ) (b : KeptBook) → book_of t number ≡ Ok b → b.withdrawn ≡ false
    → IsSomeAnd (book_at t.books number) (λ book. book.withdrawn ≡ false)
book_in_force t number b is in_force =
    subst (λ o. IsSomeAnd o (λ (book : KeptBook). book.withdrawn ≡ false)) (sym (book_there t number b is)) in_force

pub withdraws : (t : Tables) (caller : List ℕ) (number : ℕ) (b : KeptBook) (d : Draft) → book_of t number ≡ Ok b
    → owned t caller b.draft ≡ Ok d → b.withdrawn ≡ false
    → withdraw t caller number ≡ keeps (answer.Say (reply.Withdrawn number)) (with_withdrawn t number b)
unfolding withdraw
withdraws t caller number b d is own in_force =
    ap (λ r. go_on r (λ book. go_on (owned t caller book.draft) (λ draft.
    if book.withdrawn then says (answer.Say (reply.Withdrawn number))
    else keeps (answer.Say (reply.Withdrawn number)) (with_withdrawn t number book)))) is
    ∙ ap (λ r. go_on r (λ draft. if b.withdrawn then says (answer.Say (reply.Withdrawn number))
    else keeps (answer.Say (reply.Withdrawn number)) (with_withdrawn t number b))) own
    ∙ ap (λ w. if w then says (answer.Say (reply.Withdrawn number))
    else keeps (answer.Say (reply.Withdrawn number)) (with_withdrawn t number b)) in_force

-- ---- an order

pub place_room : (t : Tables) (order : OrderWords) (b : KeptBook) → to_place t order ≡ Ok b → length t.orders < MOST_ORDERS
unfolding to_place
place_room t order b is = by (book_of t order.book) is
  where
    by_room : (less : Bool) (e : KeptBook) → nat_lt (length t.orders) MOST_ORDERS ≡ less
        → (if less then Ok e else Err (reply.Full full.Orders)) ≡ Ok b → length t.orders < MOST_ORDERS
    by_room true e less h = ltb-true (length t.orders) MOST_ORDERS less
    by_room false e less h = cc

    by_force : (w : Bool) (e : KeptBook)
        → (if w then Err (reply.Gone order.book) else if nat_lt (length t.orders) MOST_ORDERS then Ok e else Err (reply.Full full.Orders)) ≡ Ok b
        → length t.orders < MOST_ORDERS
    by_force true e h = cc
    by_force false e h = by_room (nat_lt (length t.orders) MOST_ORDERS) e refl h

    by : (r : Result KeptBook Reply)
        → and_then r (λ book. if book.withdrawn then Err (reply.Gone order.book)
        else if nat_lt (length t.orders) MOST_ORDERS then Ok book else Err (reply.Full full.Orders)) ≡ Ok b
        → length t.orders < MOST_ORDERS
    by (Err said) h = cc
    by (Ok e) h = by_force e.withdrawn e h

-- a number that is taken shows what it is kept for
pub shows_repeat : (t : Tables) (orders : List (OrderKey × OrderWords)) (key : OrderKey) (kept order : OrderWords) (free : Effect) (given : Answer)
    → orders ≡ t.orders → Some kept ≡ order_at orders key
    → Shows (if same_order kept order then shows_kept t kept else says (answer.Say (reply.NumberUsed kept.book))) given
    → Shows (unless_kept (order_at t.orders key) t order free) given
shows_repeat t orders key kept order free given is found so =
    subst (λ o. Shows (unless_kept o t order free) given) (found ∙ ap (λ os. order_at os key) is) so
