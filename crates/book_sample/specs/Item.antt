-- The records of a book that is to be written, each in force for the whole term. What a record names is a place among the
-- records of its kind, counted from 0; the record may come later.
--     a_code          name
--     a_supplement    id, rank, the code that it adds, rule
--     a_construct     id, the code that it is of, or none, rule
--     a_module        id
--     a_position      id, module, or none, and whether it is mandatory
--     a_variant       id, position, part, quantity, rule
use Rattle.std.specs.Prelude.{ℕ, Bool, List, Option}
use Rattle.pb_base.specs.Rule.{Rule}

pub data Item : Type 0 where
  a_code : List ℕ → Item
  a_supplement : List ℕ → ℕ → ℕ → Rule → Item
  a_construct : List ℕ → Option ℕ → Rule → Item
  a_module : List ℕ → Item
  a_position : List ℕ → Option ℕ → Bool → Item
  a_variant : List ℕ → ℕ → List ℕ → ℕ → Rule → Item
