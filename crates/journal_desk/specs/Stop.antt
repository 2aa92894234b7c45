-- A desk whose rows are in a journal, and a stop in one of its calls.
--     put_of t event    the put of an event, where it keeps anything: the row that it sets
--     MayFind           the rows that a start finds after the stop
--     IsEither          the tables from before the call, or those after it
use Rattle.std.specs.Prelude.{◌≡◌, ◌⊎◌, ℕ, ◌+◌, false, List, length, Option, None, Some, Result, Ok, Err}
use Rattle.desk_words.specs.declared.reply.Reply.{Reply}
use Rattle.journal_keeper.specs.declared.stage.Stage.{Stage}
use Rattle.journal_keeper.specs.Journal.{kept_in}
use Rattle.journal_keeper.specs.Record.{Entry, Draft, Book, Order, Withdrawn}
use Rattle.journal_keeper.specs.Record as put
use Rattle.journal_keeper.specs.Stage.{doubted_by}
use Rattle.order_desk.specs.declared.draft.Draft as draft
use Rattle.order_desk.specs.declared.event.Event.{Event}
use Rattle.order_desk.specs.declared.event.Event.TheVariants as event
use Rattle.order_desk.specs.Effect.{Effect, says, shows, keeps, effect, owned, next_draft}
use Rattle.order_desk.specs.Rows.{draft_row, book_row, order_row, rows_of}
use Rattle.order_desk.specs.Tables.{Tables, key_of}

-- the row of a draft that the event may have
abbrev pub row_if_ok : List ℕ → Result draft.Draft Reply → (draft.Draft → draft.Draft) → Option Entry
row_if_ok name (Ok found) change = Some (Draft (draft_row (name, change found)))
row_if_ok name (Err said) change = None

-- the row that the event may set
abbrev pub row_for : Tables → Event → Option Entry
row_for t (event.PutDraft caller name text) = row_if_ok name (next_draft t caller name text) (λ new. new)
row_for t (event.GiveDraft caller name to) = row_if_ok name (owned t caller name) (λ old. record old { owner = to })
row_for t (event.Commit caller name revision released) =
    Some (Book (book_row (length t.books + 1) (record { draft = name; revision = revision; released = released; withdrawn = false })))
row_for t (event.Withdraw caller number) = Some (Withdrawn number)
row_for t (event.Place caller number order) = Some (Order (order_row (key_of caller number, order)))
row_for t _ = None

abbrev pub where_kept : Effect → Option Entry → Option Entry
where_kept (says due) row = None
where_kept (shows due) row = None
where_kept (keeps due after) row = row

abbrev pub put_of : Tables → Event → Option Entry
put_of t event = where_kept (effect t event) (row_for t event)

-- The rows of the tables from before the call, those of the tables after it, or those from before it with the put of an earlier
-- call whose gate is in doubt: that call was answered with a store fault.
abbrev pub MayFind : Tables → Tables → Stage → List ℕ → List ℕ → Type 0
MayFind before after stage file image =
    (kept_in image ≡ rows_of before)
    ⊎ (kept_in image ≡ rows_of after)
    ⊎ ((late : Entry) × (doubted_by stage file ≡ Some late) × (kept_in image ≡ put.effect late (rows_of before)))

abbrev pub IsEither : Tables → Tables → Tables → Type 0
IsEither before after found = (found ≡ before) ⊎ (found ≡ after)
