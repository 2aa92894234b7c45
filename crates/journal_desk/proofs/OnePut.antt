-- What an event keeps is the rows with one put, and every order stays.
use Rattle.std.proofs.Common.{◌≡◌, ℕ, ◌+◌, Bool, true, false, List, Option, None, Some, length, refl, ap, subst, ◌∙◌}
use Rattle.std.specs.Prelude.{Result, Ok, Err, if◌then◌else◌}
use Rattle.desk_words.specs.declared.order_words.OrderWords.{OrderWords}
use Rattle.desk_words.specs.declared.reply.Reply.{Reply}
use Rattle.desk_words.specs.declared.reply.Reply.TheVariants as reply
use Rattle.journal_keeper.specs.Record.{Entry, Draft, Book, Order, Withdrawn}
use Rattle.journal_keeper.specs.Record as put
use Rattle.order_desk.specs.declared.answer.Answer.{Answer}
use Rattle.order_desk.specs.declared.answer.Answer.TheVariants as answer
use Rattle.order_desk.specs.declared.event.Event.{Event}
use Rattle.order_desk.specs.declared.event.Event.TheVariants as event
use Rattle.order_desk.specs.declared.kept_book.KeptBook.{KeptBook}
use Rattle.order_desk.specs.declared.order_key.OrderKey.{OrderKey}
use Rattle.order_desk.specs.Effect.{Effect, says, shows, keeps, go_on, effect, owned, book_of, withdraw}
use Rattle.order_desk.specs.History.{Stays, IsSameOrder}
use Rattle.order_desk.specs.Rows.{draft_row, book_row, order_row, rows_of}
use Rattle.order_desk.specs.Tables.{Tables, key_of, order_at, with_withdrawn, with_order}
use Rattle.order_desk.proofs.EffectWrites.{Writes, Changes, effect_writes}
use Rattle.order_desk.proofs.Entries.{lookup-same}
use Rattle.order_desk.proofs.Growth.{book_there, grows-with_order}
use Rattle.order_desk.proofs.Keys.{by_key_total, by_key_exact}
use Rattle.order_desk.proofs.Kept.{least_number}
use Rattle.order_desk.proofs.RowsAfter.{rows-with_draft, rows-with_book, rows-with_withdrawn, rows-with_order}
use Rattle.journal_desk.specs.Stop.{row_if_ok, row_for, where_kept, put_of}

-- these tables have the rows of the old ones with the event's row
abbrev IsOneRow : Tables → Event → Tables → Type 0
IsOneRow t e after = (entry : Entry) × (row_for t e ≡ Some entry) × (rows_of after ≡ put.effect entry (rows_of t))

-- or with its put
abbrev pub IsOnePut : Tables → Event → Tables → Type 0
IsOnePut t e after = (entry : Entry) × (put_of t e ≡ Some entry) × (rows_of after ≡ put.effect entry (rows_of t))

module _ (P : Tables → Type 0) where
  on_found : {A : Type 0} (r : Result A Reply) (done : A → Effect) → ((a : A) → r ≡ Ok a → Writes P (done a)) → Writes P (go_on r done)
  on_found (Err said) done so = tt
  on_found (Ok found) done so = so found refl

  unless : (b : Bool) (said due : Answer) (after : Tables) → (b ≡ false → P after) → Writes P (if b then says said else keeps due after)
  unless true said due after so = tt
  unless false said due after so = so refl

pub same_entry : (o : Option Entry) (a b : Entry) → o ≡ Some a → o ≡ Some b → a ≡ b
same_entry o a b first second = cc

withdraw_puts : (t : Tables) (caller : List ℕ) (number : ℕ) → Writes (IsOneRow t (event.Withdraw caller number)) (withdraw t caller number)
unfolding withdraw
withdraw_puts t caller number =
    on_found (IsOneRow t (event.Withdraw caller number)) (book_of t number)
    (λ book. go_on (owned t caller book.draft) (λ draft.
    if book.withdrawn then says (answer.Say (reply.Withdrawn number))
    else keeps (answer.Say (reply.Withdrawn number)) (with_withdrawn t number book)))
    (λ b is. on_found (IsOneRow t (event.Withdraw caller number)) (owned t caller b.draft)
    (λ draft. if b.withdrawn then says (answer.Say (reply.Withdrawn number))
    else keeps (answer.Say (reply.Withdrawn number)) (with_withdrawn t number b))
    (λ d at. unless (IsOneRow t (event.Withdraw caller number)) b.withdrawn (answer.Say (reply.Withdrawn number)) (answer.Say (reply.Withdrawn number)) (with_withdrawn t number b)
    (λ in_force.
    let there = book_there t number b is in
    (Withdrawn number, refl, rows-with_withdrawn t number b there (least_number t.books number b there) in_force))))

event_puts : (t : Tables) (e : Event) → Writes (IsOneRow t e) (effect t e)
event_puts t (event.PutDraft caller name text) =
    effect_writes (IsOneRow t (event.PutDraft caller name text)) t (event.PutDraft caller name text)
    (λ d is. (Draft (draft_row (name, d)), ap (λ r. row_if_ok name r (λ new. new)) is, rows-with_draft t name d))
event_puts t (event.GiveDraft caller name to) =
    effect_writes (IsOneRow t (event.GiveDraft caller name to)) t (event.GiveDraft caller name to)
    (λ d is. (Draft (draft_row (name, record d { owner = to })), ap (λ r. row_if_ok name r (λ old. record old { owner = to })) is, rows-with_draft t name (record d { owner = to })))
event_puts t (event.Commit caller name revision released) =
    effect_writes (IsOneRow t (event.Commit caller name revision released)) t (event.Commit caller name revision released)
    (λ d is.
    let book : KeptBook = record { draft = name; revision = revision; released = released; withdrawn = false } in
    (Book (book_row (length t.books + 1) book), refl, rows-with_book t book refl))
event_puts t (event.Withdraw caller number) = withdraw_puts t caller number
event_puts t (event.Place caller number order) =
    effect_writes (IsOneRow t (event.Place caller number order)) t (event.Place caller number order)
    (λ b none is. (Order (order_row (key_of caller number, order)), refl, rows-with_order t (key_of caller number) order))
event_puts t (event.Read asked) = effect_writes (IsOneRow t (event.Read asked)) t (event.Read asked) tt

pub one_put : (t : Tables) (e : Event) (due : Answer) (after : Tables) → effect t e ≡ keeps due after → IsOnePut t e after
one_put t e due after is =
    let row : IsOneRow t e after = subst (Writes (IsOneRow t e)) is (event_puts t e) in
    (row.0, ap (λ f. where_kept f (row_for t e)) is ∙ row.1, row.2)

pub none_is_some : (x : Entry) → None ≡ Some x → ⊥
none_is_some x is = cc

kept_by : (f : Effect) (row : Option Entry) (entry : Entry) → where_kept f row ≡ Some entry → (due : Answer) × (after : Tables) × (f ≡ keeps due after)
kept_by (says due) row entry puts = absurd (none_is_some entry puts)
kept_by (shows due) row entry puts = absurd (none_is_some entry puts)
kept_by (keeps due after) row entry puts = (due, after, refl)

-- an event that has a put keeps something
pub put_keeps : (t : Tables) (e : Event) (entry : Entry) → put_of t e ≡ Some entry
    → (due : Answer) × (after : Tables) × (effect t e ≡ keeps due after) × (rows_of after ≡ put.effect entry (rows_of t))
put_keeps t e entry puts =
    let kept = kept_by (effect t e) (row_for t e) entry puts in
    let one = one_put t e kept.0 kept.1 kept.2 in
    (kept.0, kept.1, kept.2, one.2 ∙ ap (λ x. put.effect x (rows_of t)) (same_entry (put_of t e) one.0 entry one.1 puts))

-- ---- orders

-- each order of the old tables is one of these
abbrev HasOrders : Tables → Tables → Type 0
HasOrders t after = (key : OrderKey) (order : OrderWords) → order_at t.orders key ≡ Some order → order_at after.orders key ≡ Some order

pub still_there : (o later : Option OrderWords) (order : OrderWords) → Stays IsSameOrder o later → o ≡ Some order → later ≡ Some order
still_there None later order so is = cc
still_there (Some a) None order so is = absurd so
still_there (Some a) (Some b) order so is = ap Some so ∙ is

order_changes : (t : Tables) (e : Event) → Changes (HasOrders t) t e
order_changes t (event.PutDraft caller name text) = λ d is key order there. there
order_changes t (event.GiveDraft caller name to) = λ d is key order there. there
order_changes t (event.Commit caller name revision released) = λ d is key order there. there
order_changes t (event.Withdraw caller number) = λ b is key order there. there
order_changes t (event.Place caller number order) = λ b none is key other there.
    still_there (order_at t.orders key) (order_at (with_order t (key_of caller number) order).orders key) other ((grows-with_order t (key_of caller number) order none).orders key) there
order_changes t (event.Read asked) = tt

pub orders_stay : (t : Tables) (e : Event) (due : Answer) (after : Tables) → effect t e ≡ keeps due after → HasOrders t after
orders_stay t e due after is = subst (Writes (HasOrders t)) is (effect_writes (HasOrders t) t e (order_changes t e))

-- the order is among those of the tables
abbrev HasOrder : OrderKey → OrderWords → Tables → Type 0
HasOrder key order after = order_at after.orders key ≡ Some order

pub order_placed : (t : Tables) (caller : List ℕ) (number : ℕ) (order : OrderWords) (due : Answer) (after : Tables) → effect t (event.Place caller number order) ≡ keeps due after
    → order_at after.orders (key_of caller number) ≡ Some order
order_placed t caller number order due after is =
    subst (Writes (HasOrder (key_of caller number) order)) is
    (effect_writes (HasOrder (key_of caller number) order) t (event.Place caller number order)
    (λ b none to. lookup-same by_key_total by_key_exact (key_of caller number) order t.orders))
