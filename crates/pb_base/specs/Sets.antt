-- A set of codes is a list of truth values, one for each code of the book.
use Rattle.std.specs.Prelude.{ℕ, Bool, false, List, replicate, slice_index_or}

-- whether the code at this place is in the set
abbrev pub has : List Bool → ℕ → Bool
has x place = slice_index_or x place false

-- the set of n codes that has none of them
abbrev pub none_of : ℕ → List Bool
none_of n = replicate n false
