-- A formula is kept as one list of nodes: the left side of a connective, a jump over the right side, the right side, the connective.
--     nodes_of r      the list that a rule is kept as
--     rule_of ns      the rule that such a list stands for
use Rattle.std.specs.Prelude.{ℕ, zero, suc, Bool, true, false, not, List, [], ◌∷◌, nat_lt, if◌then◌else◌}
use Rattle.std.specs.List.{list_all}
use Rattle.pb_base.specs.Sets.{has}
use Rattle.pb_base.specs.Rule.{Rule, code, negation, both, either, always, never, top}
use Rattle.pb_base.specs.declared.node.Node.{Node}
use Rattle.pb_base.specs.declared.node.Node.TheVariants.{Code, Not, WhenTrue, WhenFalse, And, Or, Yes, No}
use Rattle.pb_base.specs.declared.node.Leaf.{Leaf}
use Rattle.pb_base.specs.declared.node.Leaf.TheVariants.{Code as LeafCode, Yes as LeafYes, No as LeafNo}

-- how many nodes a rule is kept in, and `more` besides
abbrev pub size_with : Rule → ℕ → ℕ
size_with (code place) more = suc more
size_with (negation f) more = size_with f (suc more)
size_with (both f g) more = size_with f (suc (size_with g (suc more)))
size_with (either f g) more = size_with f (suc (size_with g (suc more)))
size_with always more = suc more
size_with never more = suc more

abbrev pub size : Rule → ℕ
size f = size_with f zero

-- the nodes of a rule, and then the rest
abbrev pub nodes_then : Rule → List Node → List Node
nodes_then (code place) rest = Code place ∷ rest
nodes_then (negation f) rest = nodes_then f (Not ∷ rest)
nodes_then (both f g) rest = nodes_then f (WhenTrue (size g) ∷ nodes_then g (And (size g) ∷ rest))
nodes_then (either f g) rest = nodes_then f (WhenFalse (size g) ∷ nodes_then g (Or (size g) ∷ rest))
nodes_then always rest = Yes ∷ rest
nodes_then never rest = No ∷ rest

abbrev pub nodes_of : Rule → List Node
nodes_of f = nodes_then f []

-- The list is read back from the left, with the rules that are read and not yet joined, the last first.
abbrev pub with_node : Node → List Rule → List Rule
with_node (Code place) read = code place ∷ read
with_node Not (f ∷ read) = negation f ∷ read
with_node (And _) (g ∷ f ∷ read) = both f g ∷ read
with_node (Or _) (g ∷ f ∷ read) = either f g ∷ read
with_node Yes read = always ∷ read
with_node No read = never ∷ read
with_node _ read = read

abbrev pub read_on : List Node → List Rule → List Rule
read_on [] read = read
read_on (node ∷ rest) read = read_on rest (with_node node read)

abbrev pub rule_of : List Node → Rule
rule_of ns = top (read_on ns [])

-- whether the node is no code from n on
abbrev pub is_below : ℕ → Node → Bool
is_below n (Code place) = nat_lt place n
is_below n _ = true

abbrev pub are_below : ℕ → List Node → Bool
are_below n = list_all (is_below n)

-- The truth is found from the left, with that of what stands before the node.
abbrev pub value_after : List Bool → Bool → Node → Bool
value_after x seen (Code place) = has x place
value_after x seen Not = not seen
value_after x seen Yes = true
value_after x seen No = false
value_after x seen _ = seen

-- how many nodes behind this one don't change it
abbrev pub skip_after : Bool → Node → ℕ
skip_after seen (WhenTrue size) = if seen then zero else size
skip_after seen (WhenFalse size) = if seen then size else zero
skip_after seen _ = zero

-- the rule of a word
abbrev pub rule_of_leaf : Leaf → Rule
rule_of_leaf (LeafCode place) = code place
rule_of_leaf LeafYes = always
rule_of_leaf LeafNo = never

abbrev pub leaf_node : Leaf → Node
leaf_node (LeafCode place) = Code place
leaf_node LeafYes = Yes
leaf_node LeafNo = No
