-- The codes of one book, read by their names as those of another.
--     by_name own other place     the code of the other book at a place, where the own book has it; else it is never present
use Rattle.std.specs.Prelude.{ℕ, List, slice_get}
use Rattle.std.specs.Option.{option_map_or}
use Rattle.pb_base.specs.Names.{place_in}
use Rattle.pb_base.specs.declared.node.Leaf.{Leaf}
use Rattle.pb_base.specs.declared.node.Leaf.TheVariants.{Code as LeafCode, No as LeafNo}

abbrev pub own_leaf : List (List ℕ) → List ℕ → Leaf
own_leaf own name = option_map_or LeafCode (place_in own name) LeafNo

abbrev pub by_name : List (List ℕ) → List (List ℕ) → ℕ → Leaf
by_name own other place = option_map_or (own_leaf own) (slice_get other place) LeafNo
