-- Where the answer to an event tells a draft's book, that book can be released.
use Rattle.std.proofs.Common.{◌≡◌, ◌∙◌, ℕ, ◌+◌, ◌-◌, ◌==◌, ◌≤◌, suc, Bool, true, false, cond, List, [], ◌∷◌, ◌++◌, Option, None, Some, Ok, Err, Result, refl, sym, ap, subst, arith, inl, inr, eqb-true}
use Rattle.std.specs.Prelude.{length, nat_lt, not, ok_or, slice_get, if◌then◌else◌}
use Rattle.std.specs.List.{position_from}
use Rattle.pb_base.specs.Names.{same_name}
use Rattle.pb_base.specs.Results.{and_then}
use Rattle.release.specs.Release.{IsRelease}
use Rattle.desk_words.specs.declared.order_words.OrderWords.{OrderWords}
use Rattle.desk_words.specs.declared.reply.FullOf.TheVariants as full
use Rattle.desk_words.specs.declared.reply.Missing.TheVariants as missing
use Rattle.desk_words.specs.declared.reply.Reply.{Reply}
use Rattle.desk_words.specs.declared.reply.Reply.TheVariants as reply
use Rattle.order_desk.specs.declared.answer.Answer.{Answer}
use Rattle.order_desk.specs.declared.answer.Answer.TheVariants as answer
use Rattle.order_desk.specs.declared.draft.Draft.{Draft}
use Rattle.order_desk.specs.declared.event.Event.{Event}
use Rattle.order_desk.specs.declared.event.Event.TheVariants as event
use Rattle.order_desk.specs.declared.event.Reading.{Reading}
use Rattle.order_desk.specs.declared.event.Reading.TheVariants as reading
use Rattle.order_desk.specs.declared.kept_book.KeptBook.{KeptBook}
use Rattle.order_desk.specs.declared.limits.TheConstants.{MOST_BOOKS, MOST_DRAFTS, MOST_ORDERS, MOST_REVISION}
use Rattle.order_desk.specs.Effect.{Effect, says, shows, keeps, go_on, read, effect, draft_of, owned, next_of, next_draft, put_draft, give_draft, read_draft, read_owner, unless_released, to_release, to_take, take_draft, commit, book_of, book_in_force, show_book, show_in_force, withdraw, shows_kept, same_order, unless_kept, to_place, look, place, read_order, list_books, list_orders}
use Rattle.order_desk.specs.Fits.{Fits}
use Rattle.order_desk.specs.Tables.{Tables, book_at, draft_at, is_of, key_of, order_at, released_as, with_book, with_draft, with_order, with_withdrawn}
use Rattle.order_desk.specs.Valid.{IsValid}
use Rattle.order_desk.proofs.StepValid.{reaches_valid}
use Rattle.answering.specs.Dealt.{IsReleasedAt, NamesReleased}
use Rattle.answering.specs.Hand.{Hand, Takes}
use Rattle.answering.proofs.LaterHands.{begins_reached}
use Rattle.answering.proofs.NewOrders.{is_release}
use Rattle.answering.proofs.ToldLaws.{TellsAt, of_step, tells-if}

-- ---- books by their numbers

-- a book of valid tables can be released
pub released_book : (t : Tables) (number : ℕ) (b : KeptBook) → IsValid t → book_at t.books number ≡ Some b → IsReleasedAt t number
released_book t number b valid there =
    let release = is_release t number b valid there in
    record { book = b; there = there; reads = release.reads; releasable = release.releasable }

-- where a first one is found, there is one
found_at : (test : KeptBook → Bool) (from number : ℕ) (books : List KeptBook) → position_from test from books ≡ Some number
    → (from ≤ number) × ((b : KeptBook) × (slice_get books (number - from) ≡ Some b))
found_at test from number [] is = absurd (cc)
found_at test from number (c ∷ books) is = by (test c) is (found_at test (from + 1) number books)
  where
    by : (yes_ : Bool) → cond yes_ (Some from) (position_from test (from + 1) books) ≡ Some number
        → (position_from test (from + 1) books ≡ Some number → (from + 1 ≤ number) × ((b : KeptBook) × (slice_get books (number - (from + 1)) ≡ Some b)))
        → (from ≤ number) × ((b : KeptBook) × (slice_get (c ∷ books) (number - from) ≡ Some b))
    by true h further =
        let same : from ≡ number = cc in
        let none : number - from ≡ 0 = omega (arith, same) in
        (omega (arith, same), (c, ap (slice_get (c ∷ books)) none))
    by false h further =
        let later = further h in
        let next : number - from ≡ suc (number - (from + 1)) = omega (arith, later.0) in
        (omega (arith, later.0), (later.1.0, ap (slice_get (c ∷ books)) next ∙ later.1.1))

at_number : (books : List KeptBook) (number : ℕ) (b : KeptBook) → 1 ≤ number → slice_get books (number - 1) ≡ Some b → book_at books number ≡ Some b
at_number books number b least is = by (number == 0) refl
  where
    by : (none : Bool) → (number == 0) ≡ none → (if none then None else slice_get books (number - 1)) ≡ Some b
    by true zero_ = absurd (let is_zero : number ≡ 0 = eqb-true number 0 zero_ in omega (arith, is_zero, least))
    by false other = is

released_before : (t : Tables) (draft : List ℕ) (revision number : ℕ) → IsValid t → released_as t.books draft revision ≡ Some number
    → IsReleasedAt t number
released_before t draft revision number valid is =
    let found = found_at (is_of draft revision) 1 number t.books is in
    released_book t number found.1.0 valid (at_number t.books number found.1.0 found.0 found.1.1)

last_at : (books : List KeptBook) (b : KeptBook) → slice_get (books ++ b ∷ []) (length books) ≡ Some b
last_at [] b = refl
last_at (c ∷ books) b = last_at books b

-- a release that was kept last
released_last : (t : Tables) (b : KeptBook) → IsRelease b.released → IsReleasedAt (with_book t b) (length t.books + 1)
released_last t b release =
    let before : length t.books + 1 - 1 ≡ length t.books = omega arith in
    record {
      book = b;
      there = at_number (t.books ++ b ∷ []) (length t.books + 1) b (omega arith)
          (ap (slice_get (t.books ++ b ∷ [])) before ∙ last_at t.books b);
      reads = release.reads;
      releasable = release.releasable;
    }

-- ---- what the tests of an event say

-- what is said in place of what is there
abbrev Refuses : {A : Type 0} → (Reply → Type 0) → Result A Reply → Type 0
Refuses Q (Ok found) = Unit {0}
Refuses Q (Err said) = Q said

module _ {A : Type 0} (Q : Reply → Type 0) where
  refuses-ok_or : (o : Option A) (said : Reply) → Q said → Refuses Q (ok_or o said)
  refuses-ok_or None said so = so
  refuses-ok_or (Some found) said so = tt

  refuses-if : (b : Bool) (r s : Result A Reply) → Refuses Q r → Refuses Q s → Refuses Q (if b then r else s)
  refuses-if true r s so otherwise = so
  refuses-if false r s so otherwise = otherwise

  refuses-then : {B : Type 0} (r : Result B Reply) (next : B → Result A Reply) → Refuses Q r → ((found : B) → Refuses Q (next found))
      → Refuses Q (and_then r next)
  refuses-then (Err said) next so further = so
  refuses-then (Ok found) next so further = further found

-- ---- what an event says

abbrev AnswerNames : Answer → Tables → Type 0
AnswerNames (answer.Say r) t = NamesReleased r t
AnswerNames _ t = Unit {0}

-- what an event's own answer names
abbrev Names : Tables → Effect → Type 0
Names t u = TellsAt AnswerNames t u

module _ (t : Tables) where
  abbrev Said_ : Reply → Type 0
  Said_ r = NamesReleased r t

  names-go_on : {A : Type 0} (r : Result A Reply) (done : A → Effect) → Refuses Said_ r → ((found : A) → Names t (done found))
      → Names t (go_on r done)
  names-go_on (Ok found) done refuses so = so found
  names-go_on (Err said) done refuses so = refuses

  draft_refuses : (name : List ℕ) → Refuses Said_ (draft_of t name)
  unfolding draft_of
  draft_refuses name = refuses-ok_or Said_ (draft_at t.drafts name) (reply.NoSuch missing.Draft) tt

  owned_refuses : (caller name : List ℕ) → Refuses Said_ (owned t caller name)
  unfolding owned
  owned_refuses caller name =
      refuses-then Said_ (draft_of t name) (λ d. if same_name d.owner caller then Ok d else Err (reply.NotOwner d.owner)) (draft_refuses name)
      (λ d. refuses-if Said_ (same_name d.owner caller) (Ok d) (Err (reply.NotOwner d.owner)) tt tt)

  next_refuses : (o : Option Draft) (caller text : List ℕ) → Refuses Said_ (next_of o t caller text)
  next_refuses None caller text =
      refuses-if Said_ (nat_lt (length t.drafts) MOST_DRAFTS) (Ok (record { owner = caller; revision = 1; text = text })) (Err (reply.Full full.Drafts)) tt tt
  next_refuses (Some old) caller text =
      refuses-if Said_ (not (same_name old.owner caller)) (Err (reply.NotOwner old.owner))
      (if nat_lt old.revision MOST_REVISION then Ok (record old { revision = old.revision + 1; text = text }) else Err (reply.Full full.Revisions)) tt
      (refuses-if Said_ (nat_lt old.revision MOST_REVISION) (Ok (record old { revision = old.revision + 1; text = text }))
      (Err (reply.Full full.Revisions)) tt tt)

  put_refuses : (caller name text : List ℕ) → Refuses Said_ (next_draft t caller name text)
  unfolding next_draft
  put_refuses caller name text = next_refuses (draft_at t.drafts name) caller text

  book_refuses : (number : ℕ) → Refuses Said_ (book_of t number)
  unfolding book_of
  book_refuses number = refuses-ok_or Said_ (book_at t.books number) (reply.NoSuch missing.Book) tt

  in_force_refuses : (number : ℕ) → Refuses Said_ (book_in_force t number)
  unfolding book_in_force
  in_force_refuses number =
      refuses-then Said_ (book_of t number) (λ b. if b.withdrawn then Err (reply.Gone number) else Ok b) (book_refuses number)
      (λ b. refuses-if Said_ b.withdrawn (Err (reply.Gone number)) (Ok b) tt tt)

  place_refuses : (order : OrderWords) → Refuses Said_ (to_place t order)
  unfolding to_place
  place_refuses order =
      refuses-then Said_ (book_of t order.book)
      (λ b. if b.withdrawn then Err (reply.Gone order.book) else if nat_lt (length t.orders) MOST_ORDERS then Ok b else Err (reply.Full full.Orders))
      (book_refuses order.book)
      (λ b. refuses-if Said_ b.withdrawn (Err (reply.Gone order.book))
      (if nat_lt (length t.orders) MOST_ORDERS then Ok b else Err (reply.Full full.Orders)) tt
      (refuses-if Said_ (nat_lt (length t.orders) MOST_ORDERS) (Ok b) (Err (reply.Full full.Orders)) tt tt))

  module _ (valid : IsValid t) where
    unless_refuses : (draft : List ℕ) (revision : ℕ) (o : Option ℕ) (d : Draft) → released_as t.books draft revision ≡ o
        → Refuses Said_ (unless_released o t d)
    unless_refuses draft revision (Some number) d is = released_before t draft revision number valid is
    unless_refuses draft revision None d is = refuses-if Said_ (nat_lt (length t.books) MOST_BOOKS) (Ok d) (Err (reply.Full full.Books)) tt tt

    release_refuses : (caller name : List ℕ) (revision : ℕ) → Refuses Said_ (to_release t caller name revision)
    unfolding to_release
    release_refuses caller name revision =
        refuses-then Said_ (owned t caller name)
        (λ d. if d.revision == revision then unless_released (released_as t.books name revision) t d else Err (reply.Changed d.revision))
        (owned_refuses caller name)
        (λ d. refuses-if Said_ (d.revision == revision) (unless_released (released_as t.books name revision) t d) (Err (reply.Changed d.revision))
        (unless_refuses name revision (released_as t.books name revision) d refl) tt)

    take_refuses : (named : Option ℕ) (caller name : List ℕ) → Refuses Said_ (to_take named t caller name)
    take_refuses None caller name = owned_refuses caller name
    take_refuses (Some revision) caller name = release_refuses caller name revision

  kept_names : (kept : OrderWords) → Names t (shows_kept t kept)
  unfolding shows_kept
  kept_names kept = names-go_on (book_of t kept.book) (λ b. shows (answer.Kept kept b.released)) (book_refuses kept.book) (λ b. tt)

  unless_kept_names : (o : Option OrderWords) (order : OrderWords) (free : Effect) → Names t free → Names t (unless_kept o t order free)
  unless_kept_names None order free so = so
  unless_kept_names (Some kept) order free so =
      tells-if AnswerNames t (same_order kept order) (shows_kept t kept) (says (answer.Say (reply.NumberUsed kept.book))) (kept_names kept) tt

  withdraw_names : (caller : List ℕ) (number : ℕ) → Names t (withdraw t caller number)
  unfolding withdraw
  withdraw_names caller number =
      let gone : Effect = says (answer.Say (reply.Withdrawn number)) in
      let goes : KeptBook → Effect = λ b. keeps (answer.Say (reply.Withdrawn number)) (with_withdrawn t number b) in
      names-go_on (book_of t number) (λ b. go_on (owned t caller b.draft) (λ d. if b.withdrawn then gone else goes b)) (book_refuses number)
      (λ b. names-go_on (owned t caller b.draft) (λ d. if b.withdrawn then gone else goes b) (owned_refuses caller b.draft)
      (λ d. tells-if AnswerNames t b.withdrawn gone (goes b) tt tt))

  read_names : (asked : Reading) → IsValid t → Names t (read t asked)
  unfolding read_draft read_owner take_draft show_book show_in_force look read_order list_books list_orders
  read_names (reading.Draft draft) valid =
      names-go_on (draft_of t draft) (λ d. shows (answer.Draft d.text d.revision)) (draft_refuses draft) (λ d. tt)
  read_names (reading.Owner draft) valid =
      names-go_on (draft_of t draft) (λ d. says (answer.Say (reply.OwnerIs d.owner d.revision))) (draft_refuses draft) (λ d. tt)
  read_names (reading.Take caller draft named) valid =
      names-go_on (to_take named t caller draft) (λ d. shows (answer.Draft d.text d.revision)) (take_refuses valid named caller draft) (λ d. tt)
  read_names (reading.Book book) valid = names-go_on (book_of t book) (λ b. shows (answer.Book b.released)) (book_refuses book) (λ b. tt)
  read_names (reading.InForce book) valid =
      names-go_on (book_in_force t book) (λ b. shows (answer.Book b.released)) (in_force_refuses book) (λ b. tt)
  read_names (reading.Look caller number order) valid =
      unless_kept_names (order_at t.orders (key_of caller number)) order (go_on (to_place t order) (λ b. shows (answer.Book b.released)))
      (names-go_on (to_place t order) (λ b. shows (answer.Book b.released)) (place_refuses order) (λ b. tt))
  read_names (reading.Order caller number) valid =
      names-go_on (ok_or (order_at t.orders (key_of caller number)) (reply.NoSuch missing.Order)) (λ kept. shows_kept t kept)
      (refuses-ok_or Said_ (order_at t.orders (key_of caller number)) (reply.NoSuch missing.Order) tt) kept_names
  read_names reading.Books valid = tt
  read_names (reading.Orders caller number) valid = tt

  event_names : (e : Event) → IsValid t → Fits t e → Names t (effect t e)
  unfolding put_draft give_draft commit place
  event_names (event.PutDraft caller draft text) valid fits =
      names-go_on (next_draft t caller draft text) (λ d. keeps (answer.Say (reply.Kept draft d.revision)) (with_draft t draft d))
      (put_refuses caller draft text) (λ d. tt)
  event_names (event.GiveDraft caller draft to) valid fits =
      names-go_on (owned t caller draft) (λ d. keeps (answer.Say (reply.Given draft to)) (with_draft t draft (record d { owner = to })))
      (owned_refuses caller draft) (λ d. tt)
  event_names (event.Commit caller draft revision released) valid fits =
      let book : KeptBook = record { draft = draft; revision = revision; released = released; withdrawn = false } in
      names-go_on (to_release t caller draft revision)
      (λ d. keeps (answer.Say (reply.BookIs (length t.books + 1) true)) (with_book t book))
      (release_refuses valid caller draft revision) (λ d. released_last t book fits.release)
  event_names (event.Withdraw caller book) valid fits = withdraw_names caller book
  event_names (event.Place caller number order) valid fits =
      unless_kept_names (order_at t.orders (key_of caller number)) order
      (go_on (to_place t order) (λ b. keeps answer.Placed (with_order t (key_of caller number) order)))
      (names-go_on (to_place t order) (λ b. keeps answer.Placed (with_order t (key_of caller number) order)) (place_refuses order) (λ b. tt))
  event_names (event.Read asked) valid fits = read_names asked valid

-- ---- what a step says

names_taken : (h : Hand) (e : Event) (a : Answer) (new : Hand) → IsValid h.state.tables → Takes h e a new → AnswerNames a new.state.tables
names_taken h e a new valid (inl over) = subst (λ b. AnswerNames b new.state.tables) (sym over.said) tt
names_taken h e a new valid (inr s) =
    let valid_first : IsValid s.first.tables = reaches_valid h.state s.first (begins_reached h.book h.state s.first s.begins) valid in
    of_step AnswerNames (λ t. (tt, λ before after. tt)) (effect s.first.tables e) s.first a new.state (event_names s.first.tables e valid_first s.fits) s.step

pub says_names : (h : Hand) (e : Event) (r : Reply) (new : Hand) → IsValid h.state.tables → Takes h e (answer.Say r) new
    → NamesReleased r new.state.tables
says_names h e r new valid takes = names_taken h e (answer.Say r) new valid takes
