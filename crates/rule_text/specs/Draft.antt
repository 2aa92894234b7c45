-- How an expression is kept while it is read: one list of nodes, and where its last term begins. Where that is not the first, the
-- jump over it stands before it, and gets its size when it ends.
--     open_in start ns     what was read
--     IsDraft start ns     the list is made of lists of rules
use Rattle.std.specs.Prelude.{◌≡◌, ℕ, zero, suc, ◌<◌, List, [], ◌∷◌, ◌++◌, nat_lt, if◌then◌else◌, length, take, drop, Option, Some, None, refl}
use Rattle.std.specs.Coded.{Coded, code_by, coded_option, coded×}
use Rattle.pb_base.specs.Rule.{Rule, rule_code}
use Rattle.pb_base.specs.Node.{rule_of, nodes_of}
use Rattle.pb_base.specs.declared.node.Node.{Node}
use Rattle.pb_base.specs.declared.node.Node.TheVariants.{No, WhenTrue, And}
use Rattle.rule_text.specs.Reading.{Open}

-- the rule of these nodes, if there are any
abbrev pub rule_in : List Node → Option Rule
rule_in [] = None
rule_in (n ∷ ns) = Some (rule_of (n ∷ ns))

abbrev pub nodes_in : Option Rule → List Node
nodes_in None = []
nodes_in (Some rule) = nodes_of rule

-- the terms before the last, behind which the jump stands
abbrev pub left_in : ℕ → List Node → Option Rule
left_in zero ns = None
left_in (suc at) ns = Some (rule_of (take at ns))

abbrev pub open_in : ℕ → List Node → Open
open_in start ns = record { left = left_in start ns; product = rule_in (drop start ns) }

abbrev pub IsLeft : ℕ → List Node → Type 0
IsLeft zero ns = Unit {0}
IsLeft (suc at) ns = (at < length ns) × (take at ns ≡ nodes_of (rule_of (take at ns)))

abbrev pub IsDraft : ℕ → List Node → Type 0
IsDraft start ns = IsLeft start ns × (drop start ns ≡ nodes_in (rule_in (drop start ns)))

-- the nodes with a last term, which is FALSE where it has no factor
abbrev pub with_term : ℕ → List Node → List Node
with_term start ns = if nat_lt start (length ns) then ns else ns ++ No ∷ []

-- the nodes with a factor more, which is the first of the last term or joins the others
abbrev pub with_nodes : ℕ → List Node → List Node → List Node
with_nodes start ns factor = if nat_lt start (length ns) then ns ++ WhenTrue (length factor) ∷ (factor ++ And (length factor) ∷ []) else ns ++ factor

-- what was read is stored as its two parts
abbrev pub open_code : Coded Open
open_code = code_by (Option Rule × Option Rule) (coded× (coded_option rule_code) (coded_option rule_code)) (λ e. (e.left, e.product)) (λ p. record { left = p.0; product = p.1 }) (λ _. refl)
