-- What the answers to events tell, from what the events do.
use Rattle.std.proofs.Common.{◌≡◌, ℕ, ◌==◌, Bool, true, false, List, Option, None, Some, Result, Ok, Err, refl, sym, ap, subst, ◌∙◌, ◌⊎◌, inl, inr}
use Rattle.std.specs.Prelude.{ok_or, ◌+◌, nat_lt, length, if◌then◌else◌}
use Rattle.std.proofs.lemmas.Bool.{eqb-true}
use Rattle.pb_base.specs.Results.{and_then}
use Rattle.release.specs.Release.{Release}
use Rattle.desk_words.specs.declared.order_words.OrderWords.{OrderWords}
use Rattle.desk_words.specs.declared.reply.FullOf.TheVariants as full
use Rattle.desk_words.specs.declared.reply.Missing.TheVariants as missing
use Rattle.desk_words.specs.declared.reply.Reply.{Reply}
use Rattle.desk_words.specs.declared.reply.Reply.TheVariants as reply
use Rattle.order_desk.specs.declared.answer.Answer.{Answer}
use Rattle.order_desk.specs.declared.answer.Answer.TheVariants as answer
use Rattle.order_desk.specs.declared.draft.Draft.{Draft}
use Rattle.order_desk.specs.declared.event.Event.{Event}
use Rattle.order_desk.specs.declared.event.Event.TheVariants as event
use Rattle.order_desk.specs.declared.event.Reading.TheVariants as reading
use Rattle.order_desk.specs.declared.kept_book.KeptBook.{KeptBook}
use Rattle.order_desk.specs.declared.limits.TheConstants.{MOST_BOOKS, MOST_ORDERS}
use Rattle.order_desk.specs.declared.order_key.OrderKey.{OrderKey}
use Rattle.order_desk.specs.Effect.{Effect, says, shows, keeps, go_on, effect, draft_of, next_draft, owned, put_draft, give_draft, read_draft, read_owner, unless_released, to_release, take_draft, commit, book_of, book_in_force, show_book, show_in_force, withdraw, shows_kept, same_order, unless_kept, to_place, look, place, read_order, list_books, list_orders}
use Rattle.order_desk.specs.Step.{Follows, IsStoreFault, Step}
use Rattle.order_desk.specs.Tables.{Tables, State, order_at, key_of, released_as, with_book, with_draft, with_withdrawn}
use Rattle.order_desk.proofs.Growth.{draft_there, book_there}
use Rattle.answering.specs.Hand.{Hand, Takes}
use Rattle.answering.specs.Told.{IsReply, IsOrderThere, Tells, TellsBook, TellsDraft, TellsKept, TellsLooked, TellsPlaced, TellsText}

-- ---- from effects to steps

-- what an event's own answer tells
abbrev pub TellsAt : (Answer → Tables → Type 0) → Tables → Effect → Type 0
TellsAt P t (says due) = P due t
TellsAt P t (shows due) = P due t
TellsAt P t (keeps due tables) = P due tables

-- a reply tells nothing
abbrev Silent : (Answer → Tables → Type 0) → Type 0
Silent P = (r : Reply) (t : Tables) → P (answer.Say r) t

-- want of memory and a fault of the store tell nothing
abbrev pub Quiet : (Answer → Tables → Type 0) → Type 0
Quiet P = (t : Tables) → P (answer.Say reply.Memory) t × ((before after : ℕ) → P (answer.Say (reply.StoreFault before after)) t)

pub of_step : (P : Answer → Tables → Type 0) → Quiet P → (u : Effect) (old : State) (a : Answer) (new : State)
    → TellsAt P old.tables u → Follows u old a new → P a new.tables
of_step P quiet (says due) old a new tells (said, same) =
    subst (λ s. P a s.tables) (sym same) (subst (λ b. P b old.tables) (sym said) tells)
of_step P quiet (shows due) old a new tells (inl said, same) =
    subst (λ s. P a s.tables) (sym same) (subst (λ b. P b old.tables) (sym said) tells)
of_step P quiet (shows due) old a new tells (inr said, same) = subst (λ b. P b new.tables) (sym said) (quiet new.tables).0
of_step P quiet (keeps due tables) old a new tells (later, inl kept) =
    subst (λ t. P a t) (sym kept.changed) (subst (λ b. P b tables) (sym kept.said) tells)
of_step P quiet (keeps due tables) old a new tells (later, inr unkept) = by unkept.said
  where
    by : (a ≡ answer.Say reply.Memory) ⊎ IsStoreFault old a new → P a new.tables
    by (inl said) = subst (λ b. P b new.tables) (sym said) (quiet new.tables).0
    by (inr fault) = subst (λ b. P b new.tables) (sym fault.said) ((quiet new.tables).1 old.faults.count new.faults.count)

tells-go_on : {A : Type 0} (P : Answer → Tables → Type 0) → Silent P → (t : Tables) (r : Result A Reply) (done : A → Effect)
    → ((found : A) → r ≡ Ok found → TellsAt P t (done found)) → TellsAt P t (go_on r done)
tells-go_on P silent t (Ok found) done so = so found refl
tells-go_on P silent t (Err said) done so = silent said t

pub tells-if : (P : Answer → Tables → Type 0) (t : Tables) (b : Bool) (u v : Effect) → TellsAt P t u → TellsAt P t v → TellsAt P t (if b then u else v)
tells-if P t true u v so otherwise = so
tells-if P t false u v so otherwise = otherwise

abbrev Replies : Answer → Tables → Type 0
Replies a t = IsReply a

replies : Silent Replies
replies r t = tt

-- ---- books

abbrev Shows : Answer → Tables → Type 0
Shows a t = TellsBook a

tells_shown : (number : ℕ) (t : Tables) → TellsAt Shows t (effect t (event.Read (reading.Book number)))
unfolding show_book
tells_shown number t = tells-go_on Shows (λ r t. tt) t (book_of t number) (λ b. shows (answer.Book b.released)) (λ b is. tt)

tells_in_force : (number : ℕ) (t : Tables) → TellsAt Shows t (effect t (event.Read (reading.InForce number)))
unfolding show_in_force
tells_in_force number t = tells-go_on Shows (λ r t. tt) t (book_in_force t number) (λ b. shows (answer.Book b.released)) (λ b is. tt)

-- ---- drafts

unreleased : (released : Option ℕ) (t : Tables) (draft d : Draft) → unless_released released t draft ≡ Ok d → draft ≡ d
unreleased (Some number) t draft d is = cc
unreleased None t draft d is = by (nat_lt (length t.books) MOST_BOOKS) is
  where
    Found : Result Draft Reply
    Found = Ok draft

    by : (room : Bool) → (if room then Found else Err (reply.Full full.Books)) ≡ Ok d → draft ≡ d
    by true h = cc
    by false h = cc

-- to be released, the draft has the revision that was named
at_revision : (r : Result Draft Reply) (t : Tables) (revision : ℕ) (released : Option ℕ) (d : Draft)
    → and_then r (λ draft. if draft.revision == revision then unless_released released t draft else Err (reply.Changed draft.revision)) ≡ Ok d
    → (r ≡ Ok d) × (d.revision ≡ revision)
at_revision (Err said) t revision released d is = absurd (cc)
at_revision (Ok draft) t revision released d is = by (draft.revision == revision) refl is
  where
    Found : Result Draft Reply
    Found = Ok draft

    Other : Result Draft Reply
    Other = Err (reply.Changed draft.revision)

    by : (same : Bool) → (draft.revision == revision) ≡ same → (if same then unless_released released t draft else Other) ≡ Ok d
        → (Found ≡ Ok d) × (d.revision ≡ revision)
    by true same h =
        let it : draft ≡ d = unreleased released t draft d h in
        (ap Ok it, sym (ap (λ e. e.revision) it) ∙ eqb-true draft.revision revision same)
    by false same h = absurd (cc)

tells_draft : (caller name : List ℕ) (named : Option ℕ) (t : Tables) → TellsAt (TellsDraft name named) t (effect t (event.Read (reading.Take caller name named)))
unfolding take_draft to_release
tells_draft caller name None t =
    tells-go_on (TellsDraft name None) (λ r t. tt) t (owned t caller name) (λ d. shows (answer.Draft d.text d.revision))
    (λ d is. (record { draft = d; there = draft_there t caller name d is; its_text = refl; its_revision = refl }, tt))
tells_draft caller name (Some revision) t =
    tells-go_on (TellsDraft name (Some revision)) (λ r t. tt) t (to_release t caller name revision) (λ d. shows (answer.Draft d.text d.revision))
    (λ d is.
    let at = at_revision (owned t caller name) t revision (released_as t.books name revision) d is in
    (record { draft = d; there = draft_there t caller name d at.0; its_text = refl; its_revision = refl }, sym at.1))

-- ---- orders

tells_kept : (P : Answer → Tables → Type 0) → Silent P → (t : Tables) (key : OrderKey) (kept : OrderWords) → order_at t.orders key ≡ Some kept
    → ((r : Release) → IsOrderThere t kept r → P (answer.Kept kept r) t) → TellsAt P t (shows_kept t kept)
unfolding shows_kept
tells_kept P silent t key kept there so =
    tells-go_on P silent t (book_of t kept.book) _
    (λ b is. so b.released (record { key = key; there = there; book = record { book = b; there = book_there t kept.book b is; its_release = refl } }))

tells-unless_kept : (P : Answer → Tables → Type 0) → Silent P → (t : Tables) (o : Option OrderWords) (order : OrderWords) (free : Effect)
    → ((kept : OrderWords) → o ≡ Some kept → TellsAt P t (shows_kept t kept)) → TellsAt P t free → TellsAt P t (unless_kept o t order free)
tells-unless_kept P silent t None order free so otherwise = otherwise
tells-unless_kept P silent t (Some kept) order free so otherwise =
    tells-if P t (same_order kept order) (shows_kept t kept) (says (answer.Say (reply.NumberUsed kept.book))) (so kept refl) (silent _ t)

in_force : (r : Result KeptBook Reply) (t : Tables) (order : OrderWords) (b : KeptBook)
    → and_then r (λ book. if book.withdrawn then Err (reply.Gone order.book) else if nat_lt (length t.orders) MOST_ORDERS then Ok book else Err (reply.Full full.Orders)) ≡ Ok b
    → r ≡ Ok b
in_force (Err said) t order b is = cc
in_force (Ok book) t order b is = by book.withdrawn (nat_lt (length t.orders) MOST_ORDERS) is
  where
    Found : Result KeptBook Reply
    Found = Ok book

    by : (gone room : Bool) → (if gone then Err (reply.Gone order.book) else if room then Found else Err (reply.Full full.Orders)) ≡ Ok b → Found ≡ Ok b
    by true room h = cc
    by false true h = h
    by false false h = cc

tells_looked : (caller : List ℕ) (number : ℕ) (order : OrderWords) (t : Tables) → TellsAt (TellsLooked order.book) t (effect t (event.Read (reading.Look caller number order)))
unfolding look to_place
tells_looked caller number order t =
    let P = TellsLooked order.book in
    tells-unless_kept P (λ r t. tt) t (order_at t.orders (key_of caller number)) order _
    (λ kept is. tells_kept P (λ r t. tt) t (key_of caller number) kept is (λ r there. there))
    (tells-go_on P (λ r t. tt) t (to_place t order) (λ b. shows (answer.Book b.released))
    (λ b is. record { book = b; there = book_there t order.book b (in_force (book_of t order.book) t order b is); its_release = refl }))

tells_placed : (caller : List ℕ) (number : ℕ) (order : OrderWords) (t : Tables) → TellsAt TellsPlaced t (effect t (event.Place caller number order))
unfolding place
tells_placed caller number order t =
    tells-unless_kept TellsPlaced (λ r t. tt) t (order_at t.orders (key_of caller number)) order _
    (λ kept is. tells_kept TellsPlaced (λ r t. tt) t (key_of caller number) kept is (λ r there. there))
    (tells-go_on TellsPlaced (λ r t. tt) t (to_place t order) _ (λ b is. tt))

tells_read : (caller : List ℕ) (number : ℕ) (t : Tables) → TellsAt TellsKept t (effect t (event.Read (reading.Order caller number)))
unfolding read_order
tells_read caller number t =
    let key = key_of caller number in
    tells-go_on TellsKept (λ r t. tt) t (ok_or (order_at t.orders key) (reply.NoSuch missing.Order)) _
    (λ kept is. tells_kept TellsKept (λ r t. tt) t key kept (there (order_at t.orders key) kept is) (λ r there. there))
  where
    there : (o : Option OrderWords) (kept : OrderWords) → ok_or o (reply.NoSuch missing.Order) ≡ Ok kept → o ≡ Some kept
    there None kept h = cc
    there (Some other) kept h = cc

-- ---- all events

effect_tells : (e : Event) (t : Tables) → TellsAt (Tells e) t (effect t e)
unfolding put_draft give_draft read_draft read_owner commit withdraw list_books list_orders
effect_tells (event.Place caller number order) t = tells_placed caller number order t
effect_tells (event.Read (reading.Take caller draft named)) t = tells_draft caller draft named t
effect_tells (event.Read (reading.Book book)) t = tells_shown book t
effect_tells (event.Read (reading.InForce book)) t = tells_in_force book t
effect_tells (event.Read (reading.Look caller number order)) t = tells_looked caller number order t
effect_tells (event.Read (reading.Order caller number)) t = tells_read caller number t
effect_tells (event.Read reading.Books) t = tt
effect_tells (event.Read (reading.Orders caller number)) t = tt
effect_tells (event.Read (reading.Draft draft)) t =
    tells-go_on (λ a t. TellsText a) (λ r t. tt) t (draft_of t draft) (λ d. shows (answer.Draft d.text d.revision)) (λ d is. tt)
effect_tells (event.Read (reading.Owner draft)) t =
    tells-go_on Replies replies t (draft_of t draft) (λ d. says (answer.Say (reply.OwnerIs d.owner d.revision))) (λ d is. tt)
effect_tells (event.PutDraft caller draft text) t =
    tells-go_on Replies replies t (next_draft t caller draft text) (λ d. keeps (answer.Say (reply.Kept draft d.revision)) (with_draft t draft d))
    (λ d is. tt)
effect_tells (event.GiveDraft caller draft to) t =
    tells-go_on Replies replies t (owned t caller draft) (λ d. keeps (answer.Say (reply.Given draft to)) (with_draft t draft (record d { owner = to })))
    (λ d is. tt)
effect_tells (event.Commit caller draft revision released) t =
    tells-go_on Replies replies t (to_release t caller draft revision)
    (λ d. keeps (answer.Say (reply.BookIs (length t.books + 1) true))
    (with_book t (record { draft = draft; revision = revision; released = released; withdrawn = false })))
    (λ d is. tt)
effect_tells (event.Withdraw caller book) t =
    let gone : Effect = says (answer.Say (reply.Withdrawn book)) in
    let goes : KeptBook → Effect = λ b. keeps (answer.Say (reply.Withdrawn book)) (with_withdrawn t book b) in
    tells-go_on Replies replies t (book_of t book) (λ b. go_on (owned t caller b.draft) (λ d. if b.withdrawn then gone else goes b))
    (λ b is.
    tells-go_on Replies replies t (owned t caller b.draft) (λ d. if b.withdrawn then gone else goes b)
    (λ d own. tells-if Replies t b.withdrawn gone (goes b) tt tt))

-- a reply tells nothing
pub tells_said : (e : Event) (r : Reply) (t : Tables) → Tells e (answer.Say r) t
tells_said (event.Place caller number order) r t = tt
tells_said (event.Read (reading.Draft draft)) r t = tt
tells_said (event.Read (reading.Take caller draft named)) r t = tt
tells_said (event.Read (reading.Book book)) r t = tt
tells_said (event.Read (reading.InForce book)) r t = tt
tells_said (event.Read (reading.Look caller number order)) r t = tt
tells_said (event.Read (reading.Order caller number)) r t = tt
tells_said _ r t = tt

pub tells_step : (old : State) (e : Event) (a : Answer) (new : State) → Step old e a new → Tells e a new.tables
tells_step old e a new step =
    of_step (Tells e) (λ t. (tells_said e reply.Memory t, λ before after. tells_said e (reply.StoreFault before after) t)) (effect old.tables e)
    old a new (effect_tells e old.tables) step

-- what one who makes steps is told
pub tells_taken : (h : Hand) (e : Event) (a : Answer) (new : Hand) → Takes h e a new → Tells e a new.state.tables
tells_taken h e a new (inl over) =
    subst (λ b. Tells e b new.state.tables) (sym over.said) (tells_said e (reply.Full full.Calls) new.state.tables)
tells_taken h e a new (inr s) = tells_step s.first e a new.state s.step
