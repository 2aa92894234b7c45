-- Whatever the event is, an order that is told is told with its own book.
use Rattle.std.proofs.Common.{◌≡◌, ◌⊎◌, inl, inr, Bool, true, false, Option, None, Some, Result, Ok, Err, ok_or, refl, sym, subst, ◌∙◌}
use Rattle.std.specs.Prelude.{if◌then◌else◌}
use Rattle.release.specs.Release.{Release}
use Rattle.desk_words.specs.declared.order_words.OrderWords.{OrderWords}
use Rattle.desk_words.specs.declared.reply.Missing.TheVariants as missing
use Rattle.desk_words.specs.declared.reply.Reply.{Reply}
use Rattle.desk_words.specs.declared.reply.Reply.TheVariants as reply
use Rattle.order_desk.specs.Effect.{Effect, says, shows, keeps, book_in_force, book_of, commit, draft_of, effect, give_draft, go_on, list_books, list_orders, look, next_draft, owned, place, put_draft, read, read_draft, read_order, read_owner, same_order, show_book, show_in_force, shows_kept, take_draft, to_place, to_release, to_take, unless_kept, withdraw}
use Rattle.order_desk.specs.Step.{Follows, IsKept, IsNotKept, IsOrMemory, IsStoreFault, Step}
use Rattle.order_desk.specs.Tables.{State, Tables, book_at, key_of, order_at}
use Rattle.order_desk.specs.declared.answer.Answer.{Answer}
use Rattle.order_desk.specs.declared.answer.Answer.TheVariants as answer
use Rattle.order_desk.specs.declared.event.Event.{Event}
use Rattle.order_desk.specs.declared.event.Event.TheVariants as event
use Rattle.order_desk.specs.declared.event.Reading.{Reading}
use Rattle.order_desk.specs.declared.event.Reading.TheVariants as reading
use Rattle.order_desk.specs.declared.kept_book.KeptBook.{KeptBook}
use Rattle.desk_guards.specs.Steps.{IsOfItsBook}

abbrev TellsOwn : Tables → Answer → Type 0
TellsOwn t (answer.Kept order book) = IsOfItsBook t order book
TellsOwn t other = Unit {0}

-- where the effect tells an order, it tells it with its own book
abbrev GivesOwn : Tables → Effect → Type 0
GivesOwn t (says due) = TellsOwn t due
GivesOwn t (shows due) = TellsOwn t due
GivesOwn t (keeps due tables) = TellsOwn t due

gives_on : {A : Type 0} (t : Tables) (r : Result A Reply) (done : A → Effect) → ((a : A) → GivesOwn t (done a)) → GivesOwn t (go_on r done)
gives_on t (Ok a) done each = each a
gives_on t (Err said) done each = tt

gives_either : (t : Tables) (b : Bool) (one other : Effect) → GivesOwn t one → GivesOwn t other → GivesOwn t (if b then one else other)
gives_either t true one other h k = h
gives_either t false one other h k = k

gives_kept : (t : Tables) (kept : OrderWords) (o : Option KeptBook) → book_at t.books kept.book ≡ o
    → GivesOwn t (go_on (ok_or o (reply.NoSuch missing.Book)) (λ b. shows (answer.Kept kept b.released)))
gives_kept t kept None is = tt
gives_kept t kept (Some b) is = record { kept = b; there = is; same = refl }

gives_shown : (t : Tables) (kept : OrderWords) → GivesOwn t (shows_kept t kept)
unfolding shows_kept book_of
gives_shown t kept = gives_kept t kept (book_at t.books kept.book) refl

gives_unless : (t : Tables) (o : Option OrderWords) (sent : OrderWords) (free : Effect) → GivesOwn t free → GivesOwn t (unless_kept o t sent free)
gives_unless t None sent free h = h
gives_unless t (Some kept) sent free h =
    gives_either t (same_order kept sent) (shows_kept t kept) (says (answer.Say (reply.NumberUsed kept.book))) (gives_shown t kept) tt

gives_read : (t : Tables) (r : Reading) → GivesOwn t (read t r)
unfolding read_draft read_owner take_draft show_book show_in_force look read_order list_books list_orders
gives_read t (reading.Draft draft) = gives_on t (draft_of t draft) _ (λ d. tt)
gives_read t (reading.Owner draft) = gives_on t (draft_of t draft) _ (λ d. tt)
gives_read t (reading.Take caller draft revision) = gives_on t (to_take revision t caller draft) _ (λ d. tt)
gives_read t (reading.Book book) = gives_on t (book_of t book) _ (λ b. tt)
gives_read t (reading.InForce book) = gives_on t (book_in_force t book) _ (λ b. tt)
gives_read t (reading.Look caller number order) =
    gives_unless t (order_at t.orders (key_of caller number)) order _ (gives_on t (to_place t order) (λ b. shows (answer.Book b.released)) (λ b. tt))
gives_read t (reading.Order caller number) =
    gives_on t (ok_or (order_at t.orders (key_of caller number)) (reply.NoSuch missing.Order)) _ (λ kept. gives_shown t kept)
gives_read t reading.Books = tt
gives_read t (reading.Orders caller number) = tt

gives_own : (t : Tables) (e : Event) → GivesOwn t (effect t e)
unfolding put_draft give_draft commit withdraw place
gives_own t (event.PutDraft caller draft text) = gives_on t (next_draft t caller draft text) _ (λ d. tt)
gives_own t (event.GiveDraft caller draft to) = gives_on t (owned t caller draft) _ (λ d. tt)
gives_own t (event.Commit caller draft revision released) = gives_on t (to_release t caller draft revision) _ (λ d. tt)
gives_own t (event.Withdraw caller book) =
    gives_on t (book_of t book) _ (λ b. gives_on t (owned t caller b.draft) _ (λ d. gives_either t b.withdrawn _ _ tt tt))
gives_own t (event.Place caller number order) =
    gives_unless t (order_at t.orders (key_of caller number)) order _ (gives_on t (to_place t order) _ (λ b. tt))
gives_own t (event.Read asked) = gives_read t asked

said_none : (given : Answer) (said : Reply) (order : OrderWords) (book : Release) → given ≡ answer.Say said → given ≡ answer.Kept order book → ⊥
said_none given said order book one other = cc

told_own : (t : Tables) (due given : Answer) (order : OrderWords) (book : Release) → TellsOwn t due → given ≡ due → given ≡ answer.Kept order book → IsOfItsBook t order book
told_own t due given order book own same is = subst (λ (a : Answer). TellsOwn t a) (sym same ∙ is) own

own_by : (t : Tables) (u : Effect) (old new : State) (given : Answer) (order : OrderWords) (book : Release) → GivesOwn t u → Follows u old given new
    → given ≡ answer.Kept order book → IsOfItsBook t order book
own_by t (says due) old new given order book own f is = told_own t due given order book own f.0 is
own_by t (shows due) old new given order book own f is = by f.0
  where
    by : IsOrMemory due given → IsOfItsBook t order book
    by (inl same) = told_own t due given order book own same is
    by (inr memory) = absurd (said_none given reply.Memory order book memory is)
own_by t (keeps due tables) old new given order book own f is = by f.1
  where
    by_said : ((given ≡ answer.Say reply.Memory) ⊎ IsStoreFault old given new) → IsOfItsBook t order book
    by_said (inl memory) = absurd (said_none given reply.Memory order book memory is)
    by_said (inr fault) = absurd (said_none given (reply.StoreFault old.faults.count new.faults.count) order book fault.said is)

    by : (IsKept due tables old given new ⊎ IsNotKept old given new) → IsOfItsBook t order book
    by (inl kept) = told_own t due given order book own kept.said is
    by (inr not_kept) = by_said not_kept.said

pub own_book : (old new : State) (e : Event) (given : Answer) (order : OrderWords) (book : Release) → Step old e given new → given ≡ answer.Kept order book
    → IsOfItsBook old.tables order book
own_book old new e given order book step is = own_by old.tables (effect old.tables e) old new given order book (gives_own old.tables e) step is
