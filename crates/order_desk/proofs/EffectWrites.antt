-- What the effect of an event writes: one of five changes of the tables, each where the tests before it found what it needs.
use Rattle.std.proofs.Common.{◌≡◌, ℕ, ◌+◌, Bool, true, false, List, Option, None, Some, refl, sym, subst, inl, inr}
use Rattle.std.specs.Prelude.{Result, Ok, Err, ok_or, ◌⊎◌, length, if◌then◌else◌}
use Rattle.desk_words.specs.declared.order_words.OrderWords.{OrderWords}
use Rattle.desk_words.specs.declared.reply.Missing.TheVariants as missing
use Rattle.desk_words.specs.declared.reply.Reply.{Reply}
use Rattle.desk_words.specs.declared.reply.Reply.TheVariants as reply
use Rattle.order_desk.specs.declared.answer.Answer.{Answer}
use Rattle.order_desk.specs.declared.answer.Answer.TheVariants as answer
use Rattle.order_desk.specs.declared.draft.Draft.{Draft}
use Rattle.order_desk.specs.declared.event.Event.{Event}
use Rattle.order_desk.specs.declared.event.Event.TheVariants as event
use Rattle.order_desk.specs.declared.event.Reading.{Reading}
use Rattle.order_desk.specs.declared.event.Reading.TheVariants as reading
use Rattle.order_desk.specs.declared.kept_book.KeptBook.{KeptBook}
use Rattle.order_desk.specs.Effect.{Effect, says, shows, keeps, go_on, read, effect, draft_of, owned, next_draft, put_draft, give_draft, read_draft, read_owner, to_release, to_take, take_draft, commit, book_of, show_book, book_in_force, show_in_force, withdraw, shows_kept, same_order, unless_kept, to_place, look, place, read_order, list_books, list_orders}
use Rattle.order_desk.specs.Step.{Follows, IsKept, IsNotKept, Step}
use Rattle.order_desk.specs.Tables.{Tables, State, key_of, order_at, with_draft, with_book, with_order, with_withdrawn}

-- the tables that the effect keeps, where it keeps any, are such
abbrev pub Writes : (Tables → Type 0) → Effect → Type 0
Writes P (says due) = Unit {0}
Writes P (shows due) = Unit {0}
Writes P (keeps due tables) = P tables

-- each change that the event may make leads to such tables
abbrev pub Changes : (Tables → Type 0) → Tables → Event → Type 0
Changes P t (event.PutDraft caller draft text) =
    (d : Draft) → next_draft t caller draft text ≡ Ok d → P (with_draft t draft d)
Changes P t (event.GiveDraft caller draft to) =
    (d : Draft) → owned t caller draft ≡ Ok d → P (with_draft t draft (record d { owner = to }))
Changes P t (event.Commit caller draft revision released) =
    (d : Draft) → to_release t caller draft revision ≡ Ok d
    → P (with_book t (record { draft = draft; revision = revision; released = released; withdrawn = false }))
Changes P t (event.Withdraw caller number) = (b : KeptBook) → book_of t number ≡ Ok b → P (with_withdrawn t number b)
Changes P t (event.Place caller number order) =
    (b : KeptBook) → order_at t.orders (key_of caller number) ≡ None → to_place t order ≡ Ok b
    → P (with_order t (key_of caller number) order)
Changes P t _ = Unit {0}

module _ (P : Tables → Type 0) where
  writes-if : (b : Bool) (u w : Effect) → Writes P u → Writes P w → Writes P (if b then u else w)
  writes-if true u w so else_so = so
  writes-if false u w so else_so = else_so

  writes-go_on : {A : Type 0} (r : Result A Reply) (done : A → Effect) → ((a : A) → r ≡ Ok a → Writes P (done a)) → Writes P (go_on r done)
  writes-go_on (Err said) done so = tt
  writes-go_on (Ok found) done so = so found refl

  kept_writes : (t : Tables) (kept : OrderWords) → Writes P (shows_kept t kept)
  unfolding shows_kept
  kept_writes t kept = writes-go_on (book_of t kept.book) (λ book. shows (answer.Kept kept book.released)) (λ b is. tt)

  unless_kept_writes : (t : Tables) (o : Option OrderWords) (order : OrderWords) (free : Effect) → (o ≡ None → Writes P free)
      → Writes P (unless_kept o t order free)
  unless_kept_writes t None order free so = so refl
  unless_kept_writes t (Some kept) order free so =
      writes-if (same_order kept order) (shows_kept t kept) (says (answer.Say (reply.NumberUsed kept.book))) (kept_writes t kept) tt

  withdraw_writes : (t : Tables) (caller : List ℕ) (number : ℕ) → Changes P t (event.Withdraw caller number)
      → Writes P (withdraw t caller number)
  unfolding withdraw
  withdraw_writes t caller number so =
      writes-go_on (book_of t number)
      (λ book. go_on (owned t caller book.draft) (λ draft.
      if book.withdrawn then says (answer.Say (reply.Withdrawn number))
      else keeps (answer.Say (reply.Withdrawn number)) (with_withdrawn t number book)))
      (λ b is. writes-go_on (owned t caller b.draft)
      (λ draft. if b.withdrawn then says (answer.Say (reply.Withdrawn number))
      else keeps (answer.Say (reply.Withdrawn number)) (with_withdrawn t number b))
      (λ d at. writes-if b.withdrawn (says (answer.Say (reply.Withdrawn number)))
      (keeps (answer.Say (reply.Withdrawn number)) (with_withdrawn t number b)) tt (so b is)))

  -- what only reads writes nothing
  read_writes : (t : Tables) (asked : Reading) → Writes P (read t asked)
  unfolding read_draft read_owner take_draft show_book show_in_force look read_order list_books list_orders
  read_writes t (reading.Draft draft) =
      writes-go_on (draft_of t draft) (λ d. shows (answer.Draft d.text d.revision)) (λ d is. tt)
  read_writes t (reading.Owner draft) =
      writes-go_on (draft_of t draft) (λ d. says (answer.Say (reply.OwnerIs d.owner d.revision))) (λ d is. tt)
  read_writes t (reading.Take caller draft revision) =
      writes-go_on (to_take revision t caller draft) (λ d. shows (answer.Draft d.text d.revision)) (λ d is. tt)
  read_writes t (reading.Book book) = writes-go_on (book_of t book) (λ b. shows (answer.Book b.released)) (λ b is. tt)
  read_writes t (reading.InForce book) = writes-go_on (book_in_force t book) (λ b. shows (answer.Book b.released)) (λ b is. tt)
  read_writes t (reading.Look caller number order) =
      unless_kept_writes t (order_at t.orders (key_of caller number)) order
      (go_on (to_place t order) (λ b. shows (answer.Book b.released)))
      (λ none. writes-go_on (to_place t order) (λ b. shows (answer.Book b.released)) (λ b is. tt))
  read_writes t (reading.Order caller number) =
      writes-go_on (ok_or (order_at t.orders (key_of caller number)) (reply.NoSuch missing.Order)) (λ kept. shows_kept t kept)
      (λ kept is. kept_writes t kept)
  read_writes t reading.Books = tt
  read_writes t (reading.Orders caller number) = tt

  pub effect_writes : (t : Tables) (e : Event) → Changes P t e → Writes P (effect t e)
  unfolding put_draft give_draft commit place
  effect_writes t (event.PutDraft caller draft text) so =
      writes-go_on (next_draft t caller draft text)
      (λ d. keeps (answer.Say (reply.Kept draft d.revision)) (with_draft t draft d)) so
  effect_writes t (event.GiveDraft caller draft to) so =
      writes-go_on (owned t caller draft)
      (λ d. keeps (answer.Say (reply.Given draft to)) (with_draft t draft (record d { owner = to }))) so
  effect_writes t (event.Commit caller draft revision released) so =
      writes-go_on (to_release t caller draft revision)
      (λ d. keeps (answer.Say (reply.BookIs (length t.books + 1) true))
      (with_book t (record { draft = draft; revision = revision; released = released; withdrawn = false }))) so
  effect_writes t (event.Withdraw caller book) so = withdraw_writes t caller book so
  effect_writes t (event.Place caller number order) so =
      unless_kept_writes t (order_at t.orders (key_of caller number)) order
      (go_on (to_place t order) (λ b. keeps answer.Placed (with_order t (key_of caller number) order)))
      (λ none. writes-go_on (to_place t order) (λ b. keeps answer.Placed (with_order t (key_of caller number) order))
      (λ b is. so b none is))
  effect_writes t (event.Read asked) so = read_writes t asked

  -- a step leads to such tables, where it begins at such
  pub followed : (u : Effect) (old : State) (given : Answer) (new : State) → P old.tables → Writes P u → Follows u old given new
      → P new.tables
  followed (says due) old given new so writes f = subst (λ s. P s.tables) (sym f.1) so
  followed (shows due) old given new so writes f = subst (λ s. P s.tables) (sym f.1) so
  followed (keeps due tables) old given new so writes f = by f.1
    where
      by : (IsKept due tables old given new ⊎ IsNotKept old given new) → P new.tables
      by (inl kept) = subst P (sym kept.changed) writes
      by (inr not_kept) = subst P (sym not_kept.unchanged) so

unchanged : (u : Effect) (old : State) (given : Answer) (new : State) → Writes (λ t. ⊥) u → Follows u old given new → new ≡ old
unchanged (says due) old given new writes f = f.1
unchanged (shows due) old given new writes f = f.1
unchanged (keeps due tables) old given new writes f = absurd writes

-- what only reads changes nothing
pub reads_nothing : (old new : State) (asked : Reading) (given : Answer) → Step old (event.Read asked) given new → new ≡ old
reads_nothing old new asked given step =
    unchanged (read old.tables asked) old given new (read_writes (λ t. ⊥) old.tables asked) step
