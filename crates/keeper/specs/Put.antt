-- A table: rows in the order of their keys, each key once.
--     put C row rows      sets the row of its key, and leaves all others
--     placed ..           a row put over the one at a place, or in front of it
use Rattle.std.specs.Prelude.{ℕ, List, [], ◌∷◌, Result, Ok, Err, slice_set}
use Rattle.std.specs.List.{insert}
use Rattle.std.specs.declared.cmp.Ordering.{Ordering}
use Rattle.std.specs.declared.cmp.Ordering.TheVariants.{Less, Equal, Greater}

module _ {R : Type 0} where
  -- by how the row's key stands to that of the first row: in front of it, in its place, or among those behind
  abbrev pub put_by : Ordering → R → R → List R → List R → List R
  put_by Less row first rest put_in_rest = row ∷ first ∷ rest
  put_by Equal row first rest put_in_rest = row ∷ rest
  put_by Greater row first rest put_in_rest = first ∷ put_in_rest

  abbrev pub put : (R → R → Ordering) → R → List R → List R
  put C row [] = row ∷ []
  put C row (first ∷ rest) = put_by (C row first) row first rest (put C row rest)

  abbrev pub placed : Result ℕ ℕ → R → List R → List R
  placed (Ok place) row rows = slice_set rows place row
  placed (Err place) row rows = insert rows place row
