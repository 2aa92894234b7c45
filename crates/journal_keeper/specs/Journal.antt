-- A journal: the bytes of a file, and the rows that it keeps.
--     kept_in    the rows of a file
use Rattle.std.specs.Prelude.{◌≡◌, ℕ, zero, suc, ◌==◌, Bool, ◌||◌, ◌&&◌, not, List, [], ◌∷◌, ◌++◌, length, Option, Some, None, nat_lt, slice_index, if◌then◌else◌}
use Rattle.std.specs.Option.{option_map}
use Rattle.keeper.specs.Rows.{Kept, bare}
use Rattle.journal_keeper.specs.Record.{Entry, effect, ◌>>=◌, record_in}

-- the first 8 bytes: 1 and the letters PBJOURN
abbrev pub header : List ℕ
header = 1 ∷ 80 ∷ 66 ∷ 74 ∷ 79 ∷ 85 ∷ 82 ∷ 78 ∷ []

-- a journal without records whose first byte is not written yet
abbrev pub unopened : List ℕ
unopened = 0 ∷ 80 ∷ 66 ∷ 74 ∷ 79 ∷ 85 ∷ 82 ∷ 78 ∷ 0 ∷ []

-- what stands behind these bytes, where the file begins with them
abbrev pub behind : List ℕ → List ℕ → Option (List ℕ)
behind [] file = Some file
behind (byte ∷ front) [] = None
behind (byte ∷ front) (other ∷ rest) = if other == byte then behind front rest else None

-- the entries of the records behind so many bytes that are passed over: a gate of 1 has a record and the next gate
-- behind it, and any other gate ends the journal
abbrev pub entries_behind : List ℕ → ℕ → Option (List Entry)
entries_behind [] n = None
entries_behind (byte ∷ rest) (suc n) = entries_behind rest n
entries_behind (gate ∷ rest) zero =
    if gate == 1
    then (record_in rest >>= λ read. option_map (λ later. read.0 ∷ later) (entries_behind rest read.1))
    else Some []

-- the entries of what begins with a gate
abbrev pub entries_from : List ℕ → Option (List Entry)
entries_from body = entries_behind body 0

-- the entries of a journal
abbrev pub journal_in : List ℕ → Option (List Entry)
journal_in file = behind header file >>= entries_from

-- a file in which nothing was ever kept: one that was not begun to its end is one too
abbrev pub is_empty_store : List ℕ → Bool
is_empty_store file = nat_lt (length file) 9 || (length file == 9 && not (slice_index file 0 == 1))

-- the rows after these puts, in their sequence
abbrev pub after : List Entry → Kept → Kept
after [] kept = kept
after (entry ∷ entries) kept = after entries (effect entry kept)

-- the rows of a journal's entries; any other file has form 3 and no rows
abbrev pub rows_of : Option (List Entry) → Kept
rows_of None = bare 3
rows_of (Some entries) = after entries (bare 2)

-- the rows that a file keeps
abbrev pub kept_in : List ℕ → Kept
kept_in file = if is_empty_store file then bare 0 else rows_of (journal_in file)

-- the bytes of a record, whatever stands behind them
abbrev pub IsRecord : List ℕ → Entry → Type 0
IsRecord bytes entry = (rest : List ℕ) → record_in (bytes ++ rest) ≡ Some (entry, length bytes)
