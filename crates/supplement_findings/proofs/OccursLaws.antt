-- A code stands in a formula where a node of its list is that code.
use Rattle.std.proofs.Common.{◌≡◌, ℕ, true, ◌&&◌, ◌||◌, List, [], ◌∷◌, refl, sym, ap, ◌∙◌}
use Rattle.std.specs.List.{list_any}
use Rattle.std.proofs.Math.Bool.{or_assoc, or-false}
use Rattle.pb_base.specs.Rule.{Rule, code, negation, both, either, always, never, codes_below}
use Rattle.pb_base.specs.Node.{size, nodes_then, nodes_of, are_below}
use Rattle.pb_base.specs.declared.node.Node.{Node}
use Rattle.pb_base.specs.declared.node.Node.TheVariants.{Not, WhenTrue, WhenFalse, And, Or}
use Rattle.pb_base.proofs.Nodes.{are_below-nodes_then}
use Rattle.supplement.specs.Occurrences.{occurs, is_code}

occurs-nodes_then : (c : ℕ) (f : Rule) (rest : List Node) → list_any (is_code c) (nodes_then f rest) ≡ (occurs c f || list_any (is_code c) rest)
occurs-nodes_then c (code place) rest = refl
occurs-nodes_then c (negation f) rest = occurs-nodes_then c f (Not ∷ rest)
occurs-nodes_then c (both f g) rest =
    occurs-nodes_then c f (WhenTrue (size g) ∷ nodes_then g (And (size g) ∷ rest)) ∙ ap (λ b. occurs c f || b) (occurs-nodes_then c g (And (size g) ∷ rest))
    ∙ sym (or_assoc (occurs c f) (occurs c g) (list_any (is_code c) rest))
occurs-nodes_then c (either f g) rest =
    occurs-nodes_then c f (WhenFalse (size g) ∷ nodes_then g (Or (size g) ∷ rest)) ∙ ap (λ b. occurs c f || b) (occurs-nodes_then c g (Or (size g) ∷ rest))
    ∙ sym (or_assoc (occurs c f) (occurs c g) (list_any (is_code c) rest))
occurs-nodes_then c always rest = refl
occurs-nodes_then c never rest = refl

pub occurs_nodes : (c : ℕ) (f : Rule) → list_any (is_code c) (nodes_of f) ≡ occurs c f
occurs_nodes c f = occurs-nodes_then c f [] ∙ or-false (occurs c f)

-- a formula of codes below n is kept in nodes below n
pub formula_below : (n : ℕ) (f : Rule) → codes_below n f ≡ true → are_below n (nodes_of f) ≡ true
formula_below n f below = are_below-nodes_then n f [] ∙ ap (λ t. t && true) below
