-- A rule is a formula over the codes of a book: each code is its place among them, counted from 0.
--     holds r x          the truth of r over the set x
--     codes_below n r    each code of r is below n
--     nodes r            how many codes, constants and connectives r has
use Rattle.std.specs.Prelude.{◌≡◌, ℕ, zero, suc, ◌+◌, Bool, true, false, not, ◌&&◌, ◌||◌, List, [], ◌∷◌, nat_lt, refl}
use Rattle.std.proofs.Common.{◌∙◌}
use Rattle.std.specs.Coded.{Coded, code_by, coded_list, coded_ℕ}
use Rattle.pb_base.specs.Sets.{has}

pub data Rule : Type 0 where
  code : ℕ → Rule
  negation : Rule → Rule
  both : Rule → Rule → Rule
  either : Rule → Rule → Rule
  always : Rule
  never : Rule

-- whether the rule is true over a set
abbrev pub holds : Rule → List Bool → Bool
holds (code place) x = has x place
holds (negation f) x = not (holds f x)
holds (both f g) x = holds f x && holds g x
holds (either f g) x = holds f x || holds g x
holds always x = true
holds never x = false

-- whether each code of the rule is below n
abbrev pub codes_below : ℕ → Rule → Bool
codes_below n (code place) = nat_lt place n
codes_below n (negation f) = codes_below n f
codes_below n (both f g) = codes_below n f && codes_below n g
codes_below n (either f g) = codes_below n f && codes_below n g
codes_below n always = true
codes_below n never = true

-- the rule under this many minus signs
abbrev pub negated : ℕ → Rule → Rule
negated zero rule = rule
negated (suc signs) rule = negated signs (negation rule)

-- a node is a code, a constant or a connective
abbrev pub nodes : Rule → ℕ
nodes (code place) = 1
nodes (negation f) = nodes f + 1
nodes (both f g) = nodes f + nodes g + 1
nodes (either f g) = nodes f + nodes g + 1
nodes always = 1
nodes never = 1

-- A rule is stored as its postfix form, a number for each node, and read back with a stack.
abbrev pub postfix : Rule → List ℕ → List ℕ
postfix (negation f) rest = postfix f (zero ∷ rest)
postfix (both f g) rest = postfix f (postfix g (suc zero ∷ rest))
postfix (either f g) rest = postfix f (postfix g (suc (suc zero) ∷ rest))
postfix always rest = suc (suc (suc zero)) ∷ rest
postfix never rest = suc (suc (suc (suc zero))) ∷ rest
postfix (code place) rest = suc (suc (suc (suc (suc place)))) ∷ rest

abbrev pub with_node : ℕ → List Rule → List Rule
with_node zero (f ∷ stack) = negation f ∷ stack
with_node (suc zero) (g ∷ f ∷ stack) = both f g ∷ stack
with_node (suc (suc zero)) (g ∷ f ∷ stack) = either f g ∷ stack
with_node (suc (suc (suc zero))) stack = always ∷ stack
with_node (suc (suc (suc (suc zero)))) stack = never ∷ stack
with_node (suc (suc (suc (suc (suc place))))) stack = code place ∷ stack
with_node _ stack = stack

abbrev pub top : List Rule → Rule
top [] = never
top (f ∷ stack) = f

abbrev pub from_postfix : List ℕ → List Rule → Rule
from_postfix [] stack = top stack
from_postfix (node ∷ rest) stack = from_postfix rest (with_node node stack)

pub from_postfix-postfix : (f : Rule) (rest : List ℕ) (stack : List Rule) → from_postfix (postfix f rest) stack ≡ from_postfix rest (f ∷ stack)
from_postfix-postfix (negation f) rest stack = from_postfix-postfix f (zero ∷ rest) stack
from_postfix-postfix (both f g) rest stack = from_postfix-postfix f (postfix g (suc zero ∷ rest)) stack ∙ from_postfix-postfix g (suc zero ∷ rest) (f ∷ stack)
from_postfix-postfix (either f g) rest stack = from_postfix-postfix f (postfix g (suc (suc zero) ∷ rest)) stack ∙ from_postfix-postfix g (suc (suc zero) ∷ rest) (f ∷ stack)
from_postfix-postfix always rest stack = refl
from_postfix-postfix never rest stack = refl
from_postfix-postfix (code place) rest stack = refl

abbrev pub rule_code : Coded Rule
rule_code = code_by (List ℕ) (coded_list coded_ℕ) (λ f. postfix f []) (λ numbers. from_postfix numbers []) (λ f. from_postfix-postfix f [] [])
