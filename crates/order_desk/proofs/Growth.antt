-- What a change of the tables leaves as it is, and that each step, and so each legal history, leaves it so.
use Rattle.std.proofs.Common.{◌≡◌, ℕ, ◌+◌, ◌-◌, ◌==◌, zero, suc, Bool, true, false, List, [], ◌∷◌, ◌++◌, Option, None, Some, refl, sym, subst, ◌∙◌, arith}
use Rattle.std.specs.Prelude.{Result, Ok, Err, not, ok_or, nat_lt, slice_get, slice_set, if◌then◌else◌}
use Rattle.desk_words.specs.declared.order_words.OrderWords.{OrderWords}
use Rattle.order_desk.specs.declared.answer.Answer.{Answer}
use Rattle.order_desk.specs.declared.limits.TheConstants.{MOST_REVISION}
use Rattle.desk_words.specs.declared.reply.Reply.TheVariants as reply
use Rattle.desk_words.specs.declared.reply.Reply.{Reply}
use Rattle.desk_words.specs.declared.reply.FullOf.TheVariants as full
use Rattle.desk_words.specs.declared.reply.Missing.TheVariants as missing
use Rattle.pb_base.specs.Results.{and_then}
use Rattle.pb_base.specs.Names.{same_name}
use Rattle.order_desk.specs.declared.draft.Draft.{Draft}
use Rattle.order_desk.specs.declared.event.Event.{Event}
use Rattle.order_desk.specs.declared.event.Event.TheVariants as event
use Rattle.order_desk.specs.declared.kept_book.KeptBook.{KeptBook}
use Rattle.order_desk.specs.declared.order_key.OrderKey.{OrderKey}
use Rattle.order_desk.specs.Effect.{effect, draft_of, owned, next_of, next_draft, book_of, place}
use Rattle.order_desk.specs.History.{Stays, IsLaterDraft, IsLaterBook, IsSameOrder, Grows, IsLegal, Reaches}
use Rattle.order_desk.specs.Step.{Step}
use Rattle.order_desk.specs.Tables.{Tables, State, key_of, draft_at, book_at, order_at, with_draft, with_book, with_order, with_withdrawn}
use Rattle.order_desk.proofs.EffectWrites.{Changes, effect_writes, followed}
use Rattle.order_desk.proofs.Entries.{stays-insert, stays-same}
use Rattle.order_desk.proofs.Keys.{by_name_total, by_name_exact, by_key_total, by_key_exact}
use Rattle.turn_book.specs.History.{end_of}
use Rattle.turn_book.specs.declared.entry.Entry.{Entry}

pub same_draft : (d : Draft) → IsLaterDraft d d
same_draft d = record { revision = omega arith; text = λ same. refl }

pub same_book : (b : KeptBook) → IsLaterBook b b
same_book b = record { draft = refl; revision = refl; released = refl; withdrawn = λ w. w }

stays_same_order : (o : OrderWords) → IsSameOrder o o
stays_same_order o = refl

pub grows-same : (t : Tables) → Grows t t
grows-same t = record {
  drafts = λ name. stays-same IsLaterDraft same_draft (draft_at t.drafts name);
  books = λ number. stays-same IsLaterBook same_book (book_at t.books number);
  orders = λ key. stays-same IsSameOrder stays_same_order (order_at t.orders key);
}

pub grows-with_draft : (t : Tables) (name : List ℕ) (draft : Draft) → Stays IsLaterDraft (draft_at t.drafts name) (Some draft)
    → Grows t (with_draft t name draft)
grows-with_draft t name draft later = record {
  drafts = stays-insert by_name_total by_name_exact name draft IsLaterDraft same_draft t.drafts later;
  books = (grows-same t).books;
  orders = (grows-same t).orders;
}

-- what stays stays at a number, too
at_number : (number : ℕ) (o later : Option KeptBook) → Stays IsLaterBook o later
    → Stays IsLaterBook (if number == 0 then None else o) (if number == 0 then None else later)
at_number number o later so = by (number == 0)
  where
    by : (b : Bool) → Stays IsLaterBook (if b then None else o) (if b then None else later)
    by true = tt
    by false = so

place_stays-push : (books : List KeptBook) (book : KeptBook) (place : ℕ)
    → Stays IsLaterBook (slice_get books place) (slice_get (books ++ book ∷ []) place)
place_stays-push [] book place = tt
place_stays-push (b ∷ bs) book zero = same_book b
place_stays-push (b ∷ bs) book (suc place) = place_stays-push bs book place

pub grows-with_book : (t : Tables) (book : KeptBook) → Grows t (with_book t book)
grows-with_book t book = record {
  drafts = (grows-same t).drafts;
  books = λ number. at_number number _ _ (place_stays-push t.books book (number - 1));
  orders = (grows-same t).orders;
}

place_stays-set : (books : List KeptBook) (place : ℕ) (old new : KeptBook) → slice_get books place ≡ Some old → IsLaterBook old new
    → (other : ℕ) → Stays IsLaterBook (slice_get books other) (slice_get (slice_set books place new) other)
place_stays-set [] place old new is later other = tt
place_stays-set (b ∷ bs) zero old new is later zero = subst (λ o. Stays IsLaterBook o (Some new)) (sym is) later
place_stays-set (b ∷ bs) zero old new is later (suc other) = stays-same IsLaterBook same_book (slice_get bs other)
place_stays-set (b ∷ bs) (suc place) old new is later zero = same_book b
place_stays-set (b ∷ bs) (suc place) old new is later (suc other) = place_stays-set bs place old new is later other

-- where a book has a number, it stands at the place
pub place_of_number : (books : List KeptBook) (number : ℕ) (book : KeptBook) → book_at books number ≡ Some book
    → slice_get books (number - 1) ≡ Some book
place_of_number books number book is = by (number == 0) is
  where
    by : (b : Bool) → (if b then None else slice_get books (number - 1)) ≡ Some book → slice_get books (number - 1) ≡ Some book
    by true h = cc
    by false h = h

pub out_of_force : (b : KeptBook) → IsLaterBook b (record b { withdrawn = true })
out_of_force b = record { draft = refl; revision = refl; released = refl; withdrawn = λ w. refl }

pub grows-with_withdrawn : (t : Tables) (number : ℕ) (book : KeptBook) → book_at t.books number ≡ Some book
    → Grows t (with_withdrawn t number book)
grows-with_withdrawn t number book is = record {
  drafts = (grows-same t).drafts;
  books = λ other. at_number other _ _
      (place_stays-set t.books (number - 1) book (record book { withdrawn = true }) (place_of_number t.books number book is)
      (out_of_force book) (other - 1));
  orders = (grows-same t).orders;
}

pub grows-with_order : (t : Tables) (key : OrderKey) (order : OrderWords) → order_at t.orders key ≡ None → Grows t (with_order t key order)
grows-with_order t key order none = record {
  drafts = (grows-same t).drafts;
  books = (grows-same t).books;
  orders = stays-insert by_key_total by_key_exact key order IsSameOrder stays_same_order t.orders
      (subst (λ o. Stays IsSameOrder o (Some order)) (sym none) tt);
}

-- ---- each event

-- a draft that gets a text and one revision more, or another owner
revised : (d : Draft) (text : List ℕ) → IsLaterDraft d (record d { revision = d.revision + 1; text = text })
revised d text = record { revision = omega arith; text = λ same. absurd (omega (arith, same)) }

pub handed_over : (d : Draft) (to : List ℕ) → IsLaterDraft d (record d { owner = to })
handed_over d to = record { revision = omega arith; text = λ same. refl }

grows-over : (t : Tables) (name : List ℕ) (old new : Draft) → draft_at t.drafts name ≡ Some old → IsLaterDraft old new
    → Grows t (with_draft t name new)
grows-over t name old new is later = grows-with_draft t name new (subst (λ o. Stays IsLaterDraft o (Some new)) (sym is) later)

-- what was found is there
found-draft : (o : Option Draft) (d : Draft) → ok_or o (reply.NoSuch missing.Draft) ≡ Ok d → o ≡ Some d
found-draft None d is = cc
found-draft (Some e) d is = cc

found-owned : (r : Result Draft Reply) (caller : List ℕ) (d : Draft)
    → and_then r (λ e. if same_name e.owner caller then Ok e else Err (reply.NotOwner e.owner)) ≡ Ok d → r ≡ Ok d
found-owned (Err said) caller d is = cc
found-owned (Ok e) caller d is = by (same_name e.owner caller) is
  where
    Found : Result Draft Reply
    Found = Ok e

    by : (b : Bool) → (if b then Found else Err (reply.NotOwner e.owner)) ≡ Ok d → Found ≡ Ok d
    by true h = h
    by false h = cc

pub draft_there : (t : Tables) (caller name : List ℕ) (d : Draft) → owned t caller name ≡ Ok d → draft_at t.drafts name ≡ Some d
unfolding owned draft_of
draft_there t caller name d is =
    found-draft (draft_at t.drafts name) d (found-owned (ok_or (draft_at t.drafts name) (reply.NoSuch missing.Draft)) caller d is)

pub book_there : (t : Tables) (number : ℕ) (b : KeptBook) → book_of t number ≡ Ok b → book_at t.books number ≡ Some b
unfolding book_of
book_there t number b is = by (book_at t.books number) is
  where
    by : (o : Option KeptBook) → ok_or o (reply.NoSuch missing.Book) ≡ Ok b → o ≡ Some b
    by None h = cc
    by (Some other) h = cc

-- a put changes nothing but to a later draft
pub next_later : (t : Tables) (caller text : List ℕ) (o : Option Draft) (d : Draft) → next_of o t caller text ≡ Ok d
    → Stays IsLaterDraft o (Some d)
next_later t caller text None d is = tt
next_later t caller text (Some old) d is = by (not (same_name old.owner caller)) (nat_lt old.revision MOST_REVISION) is
  where
    Next : Draft
    Next = record old { revision = old.revision + 1; text = text }

    by : (apart below : Bool)
        → (if apart then Err (reply.NotOwner old.owner) else if below then Ok Next else Err (reply.Full full.Revisions)) ≡ Ok d
        → IsLaterDraft old d
    by true below h = cc
    by false true h = let same : Next ≡ d = cc in subst (IsLaterDraft old) same (revised old text)
    by false false h = cc

event_grows : (t : Tables) (e : Event) → Changes (Grows t) t e
unfolding next_draft
event_grows t (event.PutDraft caller draft text) = λ d is. grows-with_draft t draft d (next_later t caller text (draft_at t.drafts draft) d is)
event_grows t (event.GiveDraft caller draft to) =
    λ d is. grows-over t draft d (record d { owner = to }) (draft_there t caller draft d is) (handed_over d to)
event_grows t (event.Commit caller draft revision released) =
    λ d is. grows-with_book t (record { draft = draft; revision = revision; released = released; withdrawn = false })
event_grows t (event.Withdraw caller number) = λ b is. grows-with_withdrawn t number b (book_there t number b is)
event_grows t (event.Place caller number order) = λ b none is. grows-with_order t (key_of caller number) order none
event_grows t (event.Read asked) = tt

-- ---- each step, and each history

pub step_grows : (old : State) (e : Event) (given : Answer) (new : State) → Step old e given new → Grows old.tables new.tables
step_grows old e given new f =
    followed (Grows old.tables) (effect old.tables e) old given new (grows-same old.tables)
    (effect_writes (Grows old.tables) old.tables e (event_grows old.tables e)) f

stays-further : {A : Type 0} (P : A → A → Type 0) → ((a b c : A) → P a b → P b c → P a c) → (o p q : Option A)
    → Stays P o p → Stays P p q → Stays P o q
stays-further P so None p q first second = tt
stays-further P so (Some a) None q first second = absurd first
stays-further P so (Some a) (Some b) None first second = absurd second
stays-further P so (Some a) (Some b) (Some c) first second = so a b c first second

later_draft : (a b c : Draft) → IsLaterDraft a b → IsLaterDraft b c → IsLaterDraft a c
later_draft a b c first second = record {
  revision = omega (arith, first.revision, second.revision);
  text = λ same.
      let ab : a.revision ≡ b.revision = omega (arith, first.revision, second.revision, same) in
      first.text ab ∙ second.text (sym ab ∙ same);
}

later_book : (a b c : KeptBook) → IsLaterBook a b → IsLaterBook b c → IsLaterBook a c
later_book a b c first second = record {
  draft = second.draft ∙ first.draft;
  revision = second.revision ∙ first.revision;
  released = second.released ∙ first.released;
  withdrawn = λ w. second.withdrawn (first.withdrawn w);
}

pub grows-further : (a b c : Tables) → Grows a b → Grows b c → Grows a c
grows-further a b c first second = record {
  drafts = λ name. stays-further IsLaterDraft later_draft _ _ _ (first.drafts name) (second.drafts name);
  books = λ number. stays-further IsLaterBook later_book _ _ _ (first.books number) (second.books number);
  orders = λ key. stays-further IsSameOrder (λ x y z xy yz. yz ∙ xy) _ _ _ (first.orders key) (second.orders key);
}

legal_grows : (start : State) (history : List (Entry State Event Answer)) → IsLegal start history
    → Grows start.tables (end_of start history).tables
legal_grows start [] legal = grows-same start.tables
legal_grows start (e ∷ es) legal =
    grows-further start.tables e.after.tables (end_of e.after es).tables
    (step_grows start e.call e.reply e.after legal.1) (legal_grows e.after es legal.2)

pub reaches_grows : (old new : State) → Reaches old new → Grows old.tables new.tables
reaches_grows old new reached = subst (λ s. Grows old.tables s.tables) reached.2 (legal_grows old reached.0 reached.1)
