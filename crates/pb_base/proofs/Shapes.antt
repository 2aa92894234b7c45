-- The outermost form of a rule, found at the end of its list of nodes.
use Rattle.std.proofs.Common.{◌≡◌, ℕ, ◌+◌, ◌-◌, ◌≤◌, List, [], ◌∷◌, ◌++◌, length, take, drop, get_or, refl, sym, ap, ◌∙◌, arith, append_assoc}
use Rattle.std.proofs.Math.Seq.{get_or-append_seam, take-append_seam, drop-append-add}
use Rattle.std.proofs.lemmas.List.{length-append}
use Rattle.pb_base.specs.Rule.{Rule, code, negation, both, either, always, never}
use Rattle.pb_base.specs.Node.{size, nodes_of, rule_of}
use Rattle.pb_base.specs.declared.node.Node.{Node}
use Rattle.pb_base.specs.declared.node.Node.TheVariants.{Code, Not, WhenTrue, WhenFalse, And, Or, Yes, No}
use Rattle.pb_base.proofs.Nodes.{nodes_and, nodes_of-both, nodes_of-either, length-nodes_of, reads, lawful}

-- the nodes before the last, and the last
abbrev front : Rule → List Node
front (code place) = []
front (negation f) = nodes_of f
front (both f g) = nodes_of f ++ WhenTrue (size g) ∷ nodes_of g
front (either f g) = nodes_of f ++ WhenFalse (size g) ∷ nodes_of g
front always = []
front never = []

abbrev last : Rule → Node
last (code place) = Code place
last (negation f) = Not
last (both f g) = And (size g)
last (either f g) = Or (size g)
last always = Yes
last never = No

front_and_last : (f : Rule) → nodes_of f ≡ front f ++ last f ∷ []
front_and_last (code place) = refl
front_and_last (negation f) = nodes_and f (Not ∷ [])
front_and_last (both f g) = nodes_of-both f g ∙ simp append_assoc
front_and_last (either f g) = nodes_of-either f g ∙ simp append_assoc
front_and_last always = refl
front_and_last never = refl

at_end : (f : Rule) (ns : List Node) (d : Node) → ns ≡ nodes_of f → get_or ns (length ns - 1) d ≡ last f
at_end f ns d are =
    let whole : ns ≡ front f ++ last f ∷ [] = are ∙ front_and_last f in
    let long : length ns - 1 ≡ length (front f) = grind (arith, length-append, whole) in
    rw (long, whole) (get_or-append_seam (front f) (last f) [] d)

-- the two sides of a connective, of which the right begins at the place m
pub record Sides (join : Rule → Rule → Rule) (ns : List Node) (m : ℕ) : Type 0 where
  pub left : take (m - 1) ns ≡ nodes_of (rule_of (take (m - 1) ns))
  pub right : take (length ns - 1 - m) (drop m ns) ≡ nodes_of (rule_of (take (length ns - 1 - m) (drop m ns)))
  pub whole : join (rule_of (take (m - 1) ns)) (rule_of (take (length ns - 1 - m) (drop m ns))) ≡ rule_of ns

sides_are : (join : Rule → Rule → Rule) (f g : Rule) (ns : List Node) (m : ℕ) → ns ≡ nodes_of (join f g) → take (m - 1) ns ≡ nodes_of f
    → take (length ns - 1 - m) (drop m ns) ≡ nodes_of g → Sides join ns m
sides_are join f g ns m are lefts rights = record {
  left = lawful f _ lefts;
  right = lawful g _ rights;
  whole = rw (reads f _ lefts, reads g _ rights) (sym (reads (join f g) ns are));
}

-- Where the sides stand.
length_joined : (l r : List Node) (j c : Node) → length (l ++ j ∷ (r ++ c ∷ [])) ≡ length l + 1 + length r + 1
length_joined l r j c = grind (arith, length-append)

left_side : (l r ns : List Node) (j c : Node) (m : ℕ) → ns ≡ l ++ j ∷ (r ++ c ∷ []) → m ≡ length ns - 1 - length r → take (m - 1) ns ≡ l
left_side l r ns j c m are at =
    let long : length ns ≡ length l + 1 + length r + 1 = ap length are ∙ length_joined l r j c in
    let here : m - 1 ≡ length l = omega arith in
    rw (here, are) (take-append_seam l (j ∷ (r ++ c ∷ [])))

right_side : (l r ns : List Node) (j c : Node) (m : ℕ) → ns ≡ l ++ j ∷ (r ++ c ∷ []) → m ≡ length ns - 1 - length r → take (length ns - 1 - m) (drop m ns) ≡ r
right_side l r ns j c m are at =
    let long : length ns ≡ length l + 1 + length r + 1 = ap length are ∙ length_joined l r j c in
    let here : m ≡ length l + 1 = omega arith in
    let count : length ns - 1 - m ≡ length r = omega arith in
    let behind : drop m ns ≡ r ++ c ∷ [] = ap (λ xs. drop m xs) are ∙ ap (λ k. drop k (l ++ j ∷ (r ++ c ∷ []))) here ∙ drop-append-add l (j ∷ (r ++ c ∷ [])) 1 in
    rw (count, behind) (take-append_seam r (c ∷ []))

both_sides : (f g : Rule) (ns : List Node) (m : ℕ) → ns ≡ nodes_of (both f g) → m ≡ length ns - 1 - size g → Sides both ns m
both_sides f g ns m are at =
    let here : m ≡ length ns - 1 - length (nodes_of g) = at ∙ ap (λ k. length ns - 1 - k) (sym (length-nodes_of g)) in
    sides_are both f g ns m are (left_side (nodes_of f) (nodes_of g) ns _ _ m (are ∙ nodes_of-both f g) here)
    (right_side (nodes_of f) (nodes_of g) ns _ _ m (are ∙ nodes_of-both f g) here)

either_sides : (f g : Rule) (ns : List Node) (m : ℕ) → ns ≡ nodes_of (either f g) → m ≡ length ns - 1 - size g → Sides either ns m
either_sides f g ns m are at =
    let here : m ≡ length ns - 1 - length (nodes_of g) = at ∙ ap (λ k. length ns - 1 - k) (sym (length-nodes_of g)) in
    sides_are either f g ns m are (left_side (nodes_of f) (nodes_of g) ns _ _ m (are ∙ nodes_of-either f g) here)
    (right_side (nodes_of f) (nodes_of g) ns _ _ m (are ∙ nodes_of-either f g) here)

-- A rule whose list ends with the node of a connective is two rules joined by it.
record Two (join : Rule → Rule → Rule) (r : Rule) (s : ℕ) : Type 0 where
  pub first : Rule
  pub second : Rule
  pub is : r ≡ join first second
  pub long : size second ≡ s

and_two : (r : Rule) (s : ℕ) → last r ≡ And s → Two both r s
and_two (both f g) s e = record { first = f; second = g; is = refl; long = cc }
and_two (code place) s e = cc
and_two (negation f) s e = cc
and_two (either f g) s e = cc
and_two always s e = cc
and_two never s e = cc

or_two : (r : Rule) (s : ℕ) → last r ≡ Or s → Two either r s
or_two (either f g) s e = record { first = f; second = g; is = refl; long = cc }
or_two (code place) s e = cc
or_two (negation f) s e = cc
or_two (both f g) s e = cc
or_two always s e = cc
or_two never s e = cc

-- What the last node of a list says of the rule that it stands for.
end_is : (ns : List Node) (d node : Node) → ns ≡ nodes_of (rule_of ns) → get_or ns (length ns - 1) d ≡ node → last (rule_of ns) ≡ node
end_is ns d node are ends = sym (at_end (rule_of ns) ns d are) ∙ ends

pub and_sides : (ns : List Node) (d : Node) (s : ℕ) → ns ≡ nodes_of (rule_of ns) → get_or ns (length ns - 1) d ≡ And s → Sides both ns (length ns - 1 - s)
and_sides ns d s are ends =
    let two : Two both (rule_of ns) s = and_two (rule_of ns) s (end_is ns d (And s) are ends) in
    both_sides two.first two.second ns _ (are ∙ ap nodes_of two.is) (ap (λ k. length ns - 1 - k) (sym two.long))

pub or_sides : (ns : List Node) (d : Node) (s : ℕ) → ns ≡ nodes_of (rule_of ns) → get_or ns (length ns - 1) d ≡ Or s → Sides either ns (length ns - 1 - s)
or_sides ns d s are ends =
    let two : Two either (rule_of ns) s = or_two (rule_of ns) s (end_is ns d (Or s) are ends) in
    either_sides two.first two.second ns _ (are ∙ ap nodes_of two.is) (ap (λ k. length ns - 1 - k) (sym two.long))

-- the right side and the connective, and before them a jump, are in the list
within : (l ns : List Node) (g : Rule) (j c : Node) → ns ≡ l ++ j ∷ (nodes_of g ++ c ∷ []) → size g + 2 ≤ length ns
within l ns g j c are =
    let long : length ns ≡ length l + 1 + length (nodes_of g) + 1 = ap length are ∙ length_joined l (nodes_of g) j c in
    let same : length (nodes_of g) ≡ size g = length-nodes_of g in
    omega arith

pub and_within : (ns : List Node) (d : Node) (s : ℕ) → ns ≡ nodes_of (rule_of ns) → get_or ns (length ns - 1) d ≡ And s → s + 2 ≤ length ns
and_within ns d s are ends =
    let two : Two both (rule_of ns) s = and_two (rule_of ns) s (end_is ns d (And s) are ends) in
    let room : size two.second + 2 ≤ length ns = within (nodes_of two.first) ns two.second _ _ (are ∙ ap nodes_of two.is ∙ nodes_of-both two.first two.second) in
    rw two.long at room

pub or_within : (ns : List Node) (d : Node) (s : ℕ) → ns ≡ nodes_of (rule_of ns) → get_or ns (length ns - 1) d ≡ Or s → s + 2 ≤ length ns
or_within ns d s are ends =
    let two : Two either (rule_of ns) s = or_two (rule_of ns) s (end_is ns d (Or s) are ends) in
    let room : size two.second + 2 ≤ length ns = within (nodes_of two.first) ns two.second _ _ (are ∙ ap nodes_of two.is ∙ nodes_of-either two.first two.second) in
    rw two.long at room

-- what stands under a minus sign
pub record Under (ns : List Node) : Type 0 where
  pub part : take (length ns - 1) ns ≡ nodes_of (rule_of (take (length ns - 1) ns))
  pub whole : negation (rule_of (take (length ns - 1) ns)) ≡ rule_of ns

under : (f : Rule) (ns : List Node) → ns ≡ nodes_of (negation f) → Under ns
under f ns are =
    let joined : ns ≡ nodes_of f ++ Not ∷ [] = are ∙ nodes_and f (Not ∷ []) in
    let long : length ns - 1 ≡ length (nodes_of f) = grind (arith, length-append, joined) in
    let part : take (length ns - 1) ns ≡ nodes_of f = rw (long, joined) (take-append_seam (nodes_of f) (Not ∷ [])) in
    record { part = lawful f _ part; whole = ap negation (reads f _ part) ∙ sym (reads (negation f) ns are) }

under_of : (r : Rule) (ns : List Node) → ns ≡ nodes_of r → last r ≡ Not → Under ns
under_of (negation f) ns are e = under f ns are
under_of (code place) ns are e = cc
under_of (both f g) ns are e = cc
under_of (either f g) ns are e = cc
under_of always ns are e = cc
under_of never ns are e = cc

pub not_under : (ns : List Node) (d : Node) → ns ≡ nodes_of (rule_of ns) → get_or ns (length ns - 1) d ≡ Not → Under ns
not_under ns d are ends = under_of (rule_of ns) ns are (end_is ns d Not are ends)

code_of : (r : Rule) (place : ℕ) → last r ≡ Code place → code place ≡ r
code_of (code p) place e = cc
code_of (negation f) place e = cc
code_of (both f g) place e = cc
code_of (either f g) place e = cc
code_of always place e = cc
code_of never place e = cc

pub code_is : (ns : List Node) (d : Node) (place : ℕ) → ns ≡ nodes_of (rule_of ns) → get_or ns (length ns - 1) d ≡ Code place → code place ≡ rule_of ns
code_is ns d place are ends = code_of (rule_of ns) place (end_is ns d (Code place) are ends)

always_of : (r : Rule) → last r ≡ Yes → always ≡ r
always_of always e = refl
always_of (code p) e = cc
always_of (negation f) e = cc
always_of (both f g) e = cc
always_of (either f g) e = cc
always_of never e = cc

pub always_is : (ns : List Node) (d : Node) → ns ≡ nodes_of (rule_of ns) → get_or ns (length ns - 1) d ≡ Yes → always ≡ rule_of ns
always_is ns d are ends = always_of (rule_of ns) (end_is ns d Yes are ends)

never_of : (r : Rule) → last r ≡ No → never ≡ r
never_of never e = refl
never_of (code p) e = cc
never_of (negation f) e = cc
never_of (both f g) e = cc
never_of (either f g) e = cc
never_of always e = cc

pub never_is : (ns : List Node) (d : Node) → ns ≡ nodes_of (rule_of ns) → get_or ns (length ns - 1) d ≡ No → never ≡ rule_of ns
never_is ns d are ends = never_of (rule_of ns) (end_is ns d No are ends)

no_true_jump : (r : Rule) (s : ℕ) → last r ≡ WhenTrue s → ⊥
no_true_jump (code p) s e = cc
no_true_jump (negation f) s e = cc
no_true_jump (both f g) s e = cc
no_true_jump (either f g) s e = cc
no_true_jump always s e = cc
no_true_jump never s e = cc

no_false_jump : (r : Rule) (s : ℕ) → last r ≡ WhenFalse s → ⊥
no_false_jump (code p) s e = cc
no_false_jump (negation f) s e = cc
no_false_jump (both f g) s e = cc
no_false_jump (either f g) s e = cc
no_false_jump always s e = cc
no_false_jump never s e = cc

pub true_jump_ends_none : (ns : List Node) (d : Node) (s : ℕ) → ns ≡ nodes_of (rule_of ns) → get_or ns (length ns - 1) d ≡ WhenTrue s → ⊥
true_jump_ends_none ns d s are ends = no_true_jump (rule_of ns) s (end_is ns d (WhenTrue s) are ends)

pub false_jump_ends_none : (ns : List Node) (d : Node) (s : ℕ) → ns ≡ nodes_of (rule_of ns) → get_or ns (length ns - 1) d ≡ WhenFalse s → ⊥
false_jump_ends_none ns d s are ends = no_false_jump (rule_of ns) s (end_is ns d (WhenFalse s) are ends)
