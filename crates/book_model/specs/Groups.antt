-- The places of the variants of each position, in record order.
--     AreGroups n vs groups            a group for each of n positions, with the places of its variants
--     with_place groups position v     the same groups with one place more at the end of one of them
use Rattle.std.specs.Prelude.{◌≡◌, ℕ, ◌<◌, List, [], ◌∷◌, ◌++◌, length, slice_index_or, slice_set}
use Rattle.book_model.specs.Parts.{variants_of}
use Rattle.book_model.specs.declared.record.Variant.{Variant}

pub record AreGroups (positions : ℕ) (variants : List Variant) (groups : List (List ℕ)) : Type 0 where
  pub count : length groups ≡ positions
  pub each : (place : ℕ) → place < positions → slice_index_or groups place [] ≡ variants_of place variants

abbrev pub with_place : List (List ℕ) → ℕ → ℕ → List (List ℕ)
with_place groups position place = slice_set groups position (slice_index_or groups position [] ++ place ∷ [])
