-- What each event does, by what the desk keeps. The tests stand in the order in which they are made, and the first that applies
-- gives the answer.
--     Effect        says: an answer alone, which takes no memory
--                   shows: an answer with something of the tables, which takes memory, and changes nothing
--                   keeps: one write of the keeper, and where it succeeds this answer and these tables
--     read t r      what the reading r is answered; it never keeps
--     effect t e    what the event e does
use Rattle.std.specs.Prelude.{Result, Ok, Err, not, ok_or, ℕ, ◌+◌, ◌==◌, Bool, true, false, ◌&&◌, List, Option, None, Some, length, nat_lt, if◌then◌else◌}
use Rattle.std.specs.Cmp.Lexicographic.{pointwise}
use Rattle.pb_base.specs.Names.{same_name}
use Rattle.pb_base.specs.Results.{and_then}
use Rattle.release.specs.Release.{Release}
use Rattle.desk_words.specs.declared.order_words.OrderWords.{OrderWords}
use Rattle.desk_words.specs.declared.reply.Reply.{Reply}
use Rattle.desk_words.specs.declared.reply.Reply.TheVariants as reply
use Rattle.desk_words.specs.declared.reply.Missing.TheVariants as missing
use Rattle.desk_words.specs.declared.reply.FullOf.TheVariants as full
use Rattle.order_desk.specs.declared.answer.Answer.{Answer}
use Rattle.order_desk.specs.declared.answer.Answer.TheVariants as answer
use Rattle.order_desk.specs.declared.draft.Draft.{Draft}
use Rattle.order_desk.specs.declared.event.Event.{Event}
use Rattle.order_desk.specs.declared.event.Event.TheVariants as event
use Rattle.order_desk.specs.declared.event.Reading.{Reading}
use Rattle.order_desk.specs.declared.event.Reading.TheVariants as reading
use Rattle.order_desk.specs.declared.kept_book.KeptBook.{KeptBook}
use Rattle.order_desk.specs.declared.limits.TheConstants.{MOST_BOOKS, MOST_DRAFTS, MOST_ORDERS, MOST_REVISION}
use Rattle.order_desk.specs.Listing.{books_text, orders_text}
use Rattle.order_desk.specs.Tables.{Tables, draft_at, book_at, order_at, key_of, released_as, with_draft, with_book, with_withdrawn, with_order}

pub data Effect : Type 0 where
  says : Answer → Effect
  shows : Answer → Effect
  keeps : Answer → Tables → Effect

-- goes on with what is there, or says why there is nothing
abbrev pub go_on : {A : Type 0} → Result A Reply → (A → Effect) → Effect
go_on (Ok found) done = done found
go_on (Err said) done = says (answer.Say said)

-- ---- drafts

unfoldable pub draft_of : Tables → List ℕ → Result Draft Reply
draft_of t name = ok_or (draft_at t.drafts name) (reply.NoSuch missing.Draft)

-- the caller's own draft
unfoldable pub owned : Tables → List ℕ → List ℕ → Result Draft Reply
owned t caller name = and_then (draft_of t name) (λ draft.
    if same_name draft.owner caller then Ok draft else Err (reply.NotOwner draft.owner))

-- with a new text: a new draft has revision 1, and belongs to the caller; the caller's own has one revision more
abbrev pub next_of : Option Draft → Tables → List ℕ → List ℕ → Result Draft Reply
next_of None t caller text =
    if nat_lt (length t.drafts) MOST_DRAFTS then Ok (record { owner = caller; revision = 1; text = text })
    else Err (reply.Full full.Drafts)
next_of (Some old) t caller text =
    if not (same_name old.owner caller) then Err (reply.NotOwner old.owner)
    else if nat_lt old.revision MOST_REVISION then Ok (record old { revision = old.revision + 1; text = text })
    else Err (reply.Full full.Revisions)

unfoldable pub next_draft : Tables → List ℕ → List ℕ → List ℕ → Result Draft Reply
next_draft t caller name text = next_of (draft_at t.drafts name) t caller text

unfoldable pub put_draft : Tables → List ℕ → List ℕ → List ℕ → Effect
put_draft t caller name text = go_on (next_draft t caller name text) (λ draft.
    keeps (answer.Say (reply.Kept name draft.revision)) (with_draft t name draft))

unfoldable pub give_draft : Tables → List ℕ → List ℕ → List ℕ → Effect
give_draft t caller name to = go_on (owned t caller name) (λ draft.
    keeps (answer.Say (reply.Given name to)) (with_draft t name (record draft { owner = to })))

unfoldable pub read_draft : Tables → List ℕ → Effect
read_draft t name = go_on (draft_of t name) (λ draft. shows (answer.Draft draft.text draft.revision))

unfoldable pub read_owner : Tables → List ℕ → Effect
read_owner t name = go_on (draft_of t name) (λ draft. says (answer.Say (reply.OwnerIs draft.owner draft.revision)))

-- ---- releases

-- no revision of a draft is released twice, and there is room for one more book
abbrev pub unless_released : Option ℕ → Tables → Draft → Result Draft Reply
unless_released (Some number) t draft = Err (reply.BookIs number false)
unless_released None t draft = if nat_lt (length t.books) MOST_BOOKS then Ok draft else Err (reply.Full full.Books)

-- the caller's own draft, to be released at the revision that it has
unfoldable pub to_release : Tables → List ℕ → List ℕ → ℕ → Result Draft Reply
to_release t caller name revision = and_then (owned t caller name) (λ draft.
    if draft.revision == revision then unless_released (released_as t.books name revision) t draft
    else Err (reply.Changed draft.revision))

-- without a revision, to be checked alone
abbrev pub to_take : Option ℕ → Tables → List ℕ → List ℕ → Result Draft Reply
to_take None t caller name = owned t caller name
to_take (Some revision) t caller name = to_release t caller name revision

unfoldable pub take_draft : Tables → List ℕ → List ℕ → Option ℕ → Effect
take_draft t caller name revision = go_on (to_take revision t caller name) (λ draft.
    shows (answer.Draft draft.text draft.revision))

-- the book gets the next number
unfoldable pub commit : Tables → List ℕ → List ℕ → ℕ → Release → Effect
commit t caller name revision released = go_on (to_release t caller name revision) (λ draft.
    keeps (answer.Say (reply.BookIs (length t.books + 1) true))
    (with_book t (record { draft = name; revision = revision; released = released; withdrawn = false })))

-- ---- books

unfoldable pub book_of : Tables → ℕ → Result KeptBook Reply
book_of t number = ok_or (book_at t.books number) (reply.NoSuch missing.Book)

unfoldable pub show_book : Tables → ℕ → Effect
show_book t number = go_on (book_of t number) (λ book. shows (answer.Book book.released))

-- a book that takes orders
unfoldable pub book_in_force : Tables → ℕ → Result KeptBook Reply
book_in_force t number = and_then (book_of t number) (λ book. if book.withdrawn then Err (reply.Gone number) else Ok book)

unfoldable pub show_in_force : Tables → ℕ → Effect
show_in_force t number = go_on (book_in_force t number) (λ book. shows (answer.Book book.released))

-- the owner is that of the book's draft now
unfoldable pub withdraw : Tables → List ℕ → ℕ → Effect
withdraw t caller number = go_on (book_of t number) (λ book. go_on (owned t caller book.draft) (λ draft.
    if book.withdrawn then says (answer.Say (reply.Withdrawn number))
    else keeps (answer.Say (reply.Withdrawn number)) (with_withdrawn t number book)))

-- ---- orders

-- a kept order, with its own book
unfoldable pub shows_kept : Tables → OrderWords → Effect
shows_kept t kept = go_on (book_of t kept.book) (λ book. shows (answer.Kept kept book.released))

-- two orders say the same: the same book, the same day, the same codes in the same sequence
unfoldable pub same_order : OrderWords → OrderWords → Bool
same_order a b = a.book == b.book && a.day == b.day && pointwise same_name a.codes b.codes

-- a number that is taken is answered by the order that it is kept for
abbrev pub unless_kept : Option OrderWords → Tables → OrderWords → Effect → Effect
unless_kept None t order free = free
unless_kept (Some kept) t order free =
    if same_order kept order then shows_kept t kept else says (answer.Say (reply.NumberUsed kept.book))

-- a book that takes one more order: it is in force, and there is room
unfoldable pub to_place : Tables → OrderWords → Result KeptBook Reply
to_place t order = and_then (book_of t order.book) (λ book.
    if book.withdrawn then Err (reply.Gone order.book)
    else if nat_lt (length t.orders) MOST_ORDERS then Ok book
    else Err (reply.Full full.Orders))

unfoldable pub look : Tables → List ℕ → ℕ → OrderWords → Effect
look t caller number order = unless_kept (order_at t.orders (key_of caller number)) t order
    (go_on (to_place t order) (λ book. shows (answer.Book book.released)))

unfoldable pub place : Tables → List ℕ → ℕ → OrderWords → Effect
place t caller number order = unless_kept (order_at t.orders (key_of caller number)) t order
    (go_on (to_place t order) (λ book. keeps answer.Placed (with_order t (key_of caller number) order)))

unfoldable pub read_order : Tables → List ℕ → ℕ → Effect
read_order t caller number = go_on
    (ok_or (order_at t.orders (key_of caller number)) (reply.NoSuch missing.Order)) (λ kept. shows_kept t kept)

-- ---- lists

unfoldable pub list_books : Tables → Effect
list_books t = shows (answer.Say (reply.Report (books_text t.books)))

unfoldable pub list_orders : Tables → List ℕ → ℕ → Effect
list_orders t caller number = shows (answer.Say (reply.Report (orders_text t.orders caller number)))

-- ---- all events

-- what only reads
abbrev pub read : Tables → Reading → Effect
read t (reading.Draft draft) = read_draft t draft
read t (reading.Owner draft) = read_owner t draft
read t (reading.Take caller draft revision) = take_draft t caller draft revision
read t (reading.Book book) = show_book t book
read t (reading.InForce book) = show_in_force t book
read t (reading.Look caller number order) = look t caller number order
read t (reading.Order caller number) = read_order t caller number
read t reading.Books = list_books t
read t (reading.Orders caller number) = list_orders t caller number

abbrev pub effect : Tables → Event → Effect
effect t (event.PutDraft caller draft text) = put_draft t caller draft text
effect t (event.GiveDraft caller draft to) = give_draft t caller draft to
effect t (event.Commit caller draft revision released) = commit t caller draft revision released
effect t (event.Withdraw caller book) = withdraw t caller book
effect t (event.Place caller number order) = place t caller number order
effect t (event.Read asked) = read t asked
