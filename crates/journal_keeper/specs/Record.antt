-- The records of a journal: one put each.
--     record_in    the record that stands at the front of some bytes, and how many bytes it takes
--     record_of    the bytes of a record
use Rattle.std.specs.Prelude.{ℕ, ◌+◌, ◌^◌, ◌<◌, ◌==◌, List, [], ◌∷◌, ◌++◌, length, take, drop, Option, Some, None, nat_le, if◌then◌else◌}
use Rattle.std.specs.Int.{w32, w64, from_be_bytes, to_be_bytes}
use Rattle.keeper.specs.declared.rows.DraftRow.{DraftRow}
use Rattle.keeper.specs.declared.rows.BookRow.{BookRow}
use Rattle.keeper.specs.declared.rows.OrderRow.{OrderRow}
use Rattle.keeper.specs.Rows.{Kept, with_draft, with_book, with_order, with_withdrawn}

-- what one put sets
pub data Entry : Type 0 where
  Draft : (row : DraftRow) → Entry
  Book : (row : BookRow) → Entry
  Order : (row : OrderRow) → Entry
  Withdrawn : (number : ℕ) → Entry

-- the rows after the put
abbrev pub effect : Entry → Kept → Kept
effect (Draft row) = with_draft row
effect (Book row) = with_book row
effect (Order row) = with_order row
effect (Withdrawn number) = with_withdrawn number

infixl 10 ◌>>=◌
abbrev pub ◌>>=◌ : {A B : Type 0} → Option A → (A → Option B) → Option B
None >>= f = None
(Some x) >>= f = f x

-- a number in 8 bytes, most significant first, and what stands behind it
abbrev pub number_in : List ℕ → Option (ℕ × List ℕ)
number_in (a ∷ b ∷ c ∷ d ∷ e ∷ f ∷ g ∷ h ∷ rest) = Some (from_be_bytes w64 (a ∷ b ∷ c ∷ d ∷ e ∷ f ∷ g ∷ h ∷ []), rest)
number_in _ = None

-- a text, its length in 4 bytes in front of it, and what stands behind it
abbrev pub text_in : List ℕ → Option (List ℕ × List ℕ)
text_in (a ∷ b ∷ c ∷ d ∷ rest) =
    let long = from_be_bytes w32 (a ∷ b ∷ c ∷ d ∷ []) in
    if nat_le long (length rest) then Some (take long rest, drop long rest) else None
text_in _ = None

-- a value with nothing behind it
abbrev pub alone : {A : Type 0} → A → List ℕ → Option A
alone value [] = Some value
alone value (byte ∷ rest) = None

-- the fields of each kind of row, in their sequence
unfoldable pub draft_in : List ℕ → Option Entry
draft_in payload = do
  name ← text_in payload
  owner ← text_in name.1
  revision ← number_in owner.1
  text ← text_in revision.1
  alone (Draft (record { name = name.0; owner = owner.0; revision = revision.0; text = text.0 })) text.1

unfoldable pub book_in : List ℕ → Option Entry
book_in payload = do
  number ← number_in payload
  draft ← text_in number.1
  revision ← number_in draft.1
  text ← text_in revision.1
  cert ← text_in text.1
  alone (Book (record { number = number.0; draft = draft.0; revision = revision.0; text = text.0; cert = cert.0 })) cert.1

unfoldable pub order_in : List ℕ → Option Entry
order_in payload = do
  caller ← text_in payload
  number ← number_in caller.1
  book ← number_in number.1
  day ← number_in book.1
  codes ← text_in day.1
  alone (Order (record { caller = caller.0; number = number.0; book = book.0; day = day.0; codes = codes.0 })) codes.1

unfoldable pub withdrawn_in : List ℕ → Option Entry
withdrawn_in payload = do
  number ← number_in payload
  alone (Withdrawn number.0) number.1

unfoldable pub entry_in : ℕ → List ℕ → Option Entry
entry_in kind payload =
    if kind == 1 then draft_in payload
    else (if kind == 2 then book_in payload
    else (if kind == 3 then order_in payload
    else (if kind == 4 then withdrawn_in payload else None)))

-- the kind, the payload's length and the payload; the number of bytes is that of all three
unfoldable pub record_in : List ℕ → Option (Entry × ℕ)
record_in [] = None
record_in (kind ∷ rest) = do
  payload ← text_in rest
  entry ← entry_in kind payload.0
  Some (entry, 5 + length payload.0)

abbrev pub text_of : List ℕ → List ℕ
text_of bytes = to_be_bytes w32 (length bytes) ++ bytes

abbrev pub number_of : ℕ → List ℕ
number_of n = to_be_bytes w64 n

abbrev pub kind_of : Entry → ℕ
kind_of (Draft row) = 1
kind_of (Book row) = 2
kind_of (Order row) = 3
kind_of (Withdrawn number) = 4

abbrev pub payload_of : Entry → List ℕ
payload_of (Draft row) = text_of row.name ++ text_of row.owner ++ number_of row.revision ++ text_of row.text
payload_of (Book row) = number_of row.number ++ text_of row.draft ++ number_of row.revision ++ text_of row.text ++ text_of row.cert
payload_of (Order row) = text_of row.caller ++ number_of row.number ++ number_of row.book ++ number_of row.day ++ text_of row.codes
payload_of (Withdrawn number) = number_of number

abbrev pub record_of : Entry → List ℕ
record_of entry = kind_of entry ∷ text_of (payload_of entry)

-- the numbers of an entry fit 64 bits
abbrev pub Fits : Entry → Type 0
Fits (Draft row) = row.revision < 2 ^ 64
Fits (Book row) = (row.number < 2 ^ 64) × (row.revision < 2 ^ 64)
Fits (Order row) = (row.number < 2 ^ 64) × (row.book < 2 ^ 64) × (row.day < 2 ^ 64)
Fits (Withdrawn number) = number < 2 ^ 64
