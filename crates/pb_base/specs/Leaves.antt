-- Formulas with other words in place of their codes.
--     with_leaves leaf f     the formula
--     leaf_holds x leaf      the truth of a word over a set
--     present code           one code is read as present, the others stay
--     renamed places         each code has another place; one that has none is never present
use Rattle.std.specs.Prelude.{ℕ, ◌==◌, Bool, true, false, List, if◌then◌else◌, slice_get}
use Rattle.std.specs.Option.{option_map_or}
use Rattle.pb_base.specs.Sets.{has}
use Rattle.pb_base.specs.Rule.{Rule, code, negation, both, either, always, never}
use Rattle.pb_base.specs.Node.{rule_of_leaf, leaf_node}
use Rattle.pb_base.specs.declared.node.Node.{Node}
use Rattle.pb_base.specs.declared.node.Node.TheVariants.{Code}
use Rattle.pb_base.specs.declared.node.Leaf.{Leaf}
use Rattle.pb_base.specs.declared.node.Leaf.TheVariants.{Code as LeafCode, Yes as LeafYes, No as LeafNo}

abbrev pub with_leaves : (ℕ → Leaf) → Rule → Rule
with_leaves leaf (code place) = rule_of_leaf (leaf place)
with_leaves leaf (negation f) = negation (with_leaves leaf f)
with_leaves leaf (both f g) = both (with_leaves leaf f) (with_leaves leaf g)
with_leaves leaf (either f g) = either (with_leaves leaf f) (with_leaves leaf g)
with_leaves leaf always = always
with_leaves leaf never = never

-- the same of a node of the list that a formula is kept as
abbrev pub node_with : (ℕ → Leaf) → Node → Node
node_with leaf (Code place) = leaf_node (leaf place)
node_with leaf node = node

abbrev pub leaf_holds : List Bool → Leaf → Bool
leaf_holds x (LeafCode place) = has x place
leaf_holds x LeafYes = true
leaf_holds x LeafNo = false

abbrev pub present : ℕ → ℕ → Leaf
present on place = if place == on then LeafYes else LeafCode place

abbrev pub renamed : List ℕ → ℕ → Leaf
renamed places place = option_map_or LeafCode (slice_get places place) LeafNo

-- a formula with one code read as present, and with other places for its codes
abbrev pub with_present : ℕ → Rule → Rule
with_present on f = with_leaves (present on) f

abbrev pub with_places : List ℕ → Rule → Rule
with_places places f = with_leaves (renamed places) f
