-- The list of nodes of an expression that is read.
use Rattle.std.proofs.Common.{◌≡◌, Bool, true, false, cond, ltb, ℕ, zero, suc, ◌<◌, ◌≤◌, List, [], ◌∷◌, ◌++◌, length, length-append, take, drop, ◌-◌, append_assoc, Option, Some, None, refl, sym, ap, subst, ◌∙◌, arith}
use Rattle.std.specs.Prelude.{unwrap_or}
use Rattle.std.proofs.Math.ListN.{set}
use Rattle.std.proofs.lemmas.List.{take-append-le, set_split}
use Rattle.std.proofs.Math.Seq.{take-append_seam}
use Rattle.pb_base.specs.Rule.{Rule, code, negation, both, either, always, never}
use Rattle.pb_base.specs.Node.{size_with, nodes_of, rule_of}
use Rattle.pb_base.specs.declared.node.Node.{Node}
use Rattle.pb_base.specs.declared.node.Node.TheVariants.{No, WhenTrue, WhenFalse, And, Or}
use Rattle.pb_base.proofs.Nodes.{reads, length-nodes_of, both_joined, either_joined}
use Rattle.rule_text.specs.Reading.{Open, joined, whole, with_factor}
use Rattle.std.proofs.lemmas.Bool.Decides.{nat_tests}
use Rattle.rule_text.specs.Draft.{with_nodes, with_term, rule_in, nodes_in, left_in, open_in, IsLeft, IsDraft}

size_some : (f : Rule) (more : ℕ) → 0 < size_with f more
size_some (code place) more = omega arith
size_some (negation f) more = size_some f (suc more)
size_some (both f g) more = size_some f (suc (size_with g (suc more)))
size_some (either f g) more = size_some f (suc (size_with g (suc more)))
size_some always more = omega arith
size_some never more = omega arith

-- the list of a rule is read as that rule
is_product : (xs : List Node) (rule : Rule) → xs ≡ nodes_of rule → rule_in xs ≡ Some rule
is_product [] rule are = let some = size_some rule 0 in absurd (omega (arith, ap length are, length-nodes_of rule))
is_product (n ∷ ns) rule are = ap Some (reads rule (n ∷ ns) are)

is_kept : (xs : List Node) (rule : Rule) → xs ≡ nodes_of rule → xs ≡ nodes_in (rule_in xs)
is_kept xs rule are = are ∙ ap nodes_in (sym (is_product xs rule are))

open-of : (l : Option Rule) (p q : Option Rule) → p ≡ q → (let e : Open = record { left = l; product = p } in e) ≡ record { left = l; product = q }
open-of l p q same = ap (λ x. record { left = l; product = x }) same

drop-append : (k : ℕ) (ns xs : List Node) → k ≤ length ns → drop k (ns ++ xs) ≡ drop k ns ++ xs
drop-append zero ns xs within = refl
drop-append (suc k) [] xs within = absurd (omega arith)
drop-append (suc k) (n ∷ ns) xs within = drop-append k ns xs (omega arith)

pub start_within : (start : ℕ) (ns : List Node) → IsLeft start ns → start ≤ length ns
start_within zero ns is_left = omega arith
start_within (suc at) ns is_left = omega (arith, is_left.0)

-- more nodes, with which the last term is the list of a rule
pub extended : (start : ℕ) (ns xs : List Node) (rule : Rule) → IsLeft start ns → drop start ns ++ xs ≡ nodes_of rule
    → IsDraft start (ns ++ xs) × (open_in start (ns ++ xs) ≡ record { left = left_in start ns; product = Some rule })
extended zero ns xs rule is_left are = ((tt, is_kept (ns ++ xs) rule are), open-of None _ _ (is_product (ns ++ xs) rule are))
extended (suc at) ns xs rule (inside, left) are =
    let front : take at (ns ++ xs) ≡ take at ns = take-append-le at ns xs (omega arith) in
    let back : drop (suc at) (ns ++ xs) ≡ nodes_of rule = drop-append (suc at) ns xs (omega arith) ∙ are in (
      ((omega (arith, length-append ns xs), front ∙ left ∙ ap (λ side. nodes_of (rule_of side)) (sym front)), is_kept _ rule back),
      ap (λ side. record { left = Some (rule_of side); product = rule_in (drop (suc at) (ns ++ xs)) }) front ∙ open-of (Some (rule_of (take at ns))) _ _ (is_product _ rule back),
    )

no_term : (start : ℕ) (ns : List Node) → length ns ≤ start → drop start ns ≡ []
no_term zero [] short = refl
no_term zero (n ∷ ns) short = absurd (omega arith)
no_term (suc start) [] short = refl
no_term (suc start) (n ∷ ns) short = no_term start ns (omega arith)

a_term : (start : ℕ) (ns : List Node) → start < length ns → (n : Node) × (rest : List Node) × (drop start ns ≡ n ∷ rest)
a_term start [] long = absurd (omega arith)
a_term zero (n ∷ ns) long = (n, ns, refl)
a_term (suc start) (n ∷ ns) long = a_term start ns (omega arith)

-- a factor more
first_factor : (start : ℕ) (ns xs : List Node) (factor : Rule) → IsDraft start ns → length ns ≤ start → xs ≡ nodes_of factor
    → IsDraft start (ns ++ xs) × (open_in start (ns ++ xs) ≡ with_factor (open_in start ns) factor)
first_factor start ns xs factor is_draft short are =
    let none = no_term start ns short in
    let e = extended start ns xs factor is_draft.0 (ap (λ side. side ++ xs) none ∙ are) in
    (e.0, e.1 ∙ ap (λ side. record { left = left_in start ns; product = Some (joined both (rule_in side) factor) }) (sym none))

further_factor : (start : ℕ) (ns xs : List Node) (factor : Rule) → IsDraft start ns → start < length ns → xs ≡ nodes_of factor
    → IsDraft start (ns ++ WhenTrue (length xs) ∷ (xs ++ And (length xs) ∷ []))
    × (open_in start (ns ++ WhenTrue (length xs) ∷ (xs ++ And (length xs) ∷ [])) ≡ with_factor (open_in start ns) factor)
further_factor start ns xs factor is_draft long are =
    let (n, rest, is) = a_term start ns long in
    let product = rule_of (n ∷ rest) in
    let is_rule : rule_in (drop start ns) ≡ Some product = ap rule_in is in
    let kept : drop start ns ≡ nodes_of product = is_draft.1 ∙ ap nodes_in is_rule in
    let e = extended start ns (WhenTrue (length xs) ∷ (xs ++ And (length xs) ∷ [])) (both product factor) is_draft.0 (both_joined product factor (drop start ns) xs (length xs) kept are refl) in
    (e.0, e.1 ∙ ap (λ p. record { left = left_in start ns; product = Some (joined both p factor) }) (sym is_rule))

abbrev Joins : ℕ → List Node → List Node → Rule → Type 0
Joins start ns joined_ns factor = IsDraft start joined_ns × (open_in start joined_ns ≡ with_factor (open_in start ns) factor)

pub factor_joined : (start : ℕ) (ns xs : List Node) (factor : Rule) → IsDraft start ns → xs ≡ nodes_of factor → Joins start ns (with_nodes start ns xs) factor
factor_joined start ns xs factor is_draft are = by_test (ltb start (length ns)) refl
  where
    by_test : (more : Bool) → ltb start (length ns) ≡ more → Joins start ns (cond more (ns ++ WhenTrue (length xs) ∷ (xs ++ And (length xs) ∷ [])) (ns ++ xs)) factor
    by_test true test = further_factor start ns xs factor is_draft (grind (arith, nat_tests)) are
    by_test false test = first_factor start ns xs factor is_draft (grind (arith, nat_tests)) are

-- the last term of an expression that ends
abbrev Ends : ℕ → List Node → List Node → Type 0
Ends start ns ended = IsLeft start ended × (left_in start ended ≡ left_in start ns) × (drop start ended ≡ nodes_of (unwrap_or (rule_in (drop start ns)) never))

pub term_ended : (start : ℕ) (ns : List Node) → IsDraft start ns → Ends start ns (with_term start ns)
term_ended start ns is_draft = by_test (ltb start (length ns)) refl
  where
    by_test : (more : Bool) → ltb start (length ns) ≡ more → Ends start ns (cond more ns (ns ++ No ∷ []))
    by_test true test =
        let (n, rest, is) = a_term start ns (grind (arith, nat_tests)) in
        (is_draft.0, refl, is_draft.1 ∙ ap nodes_in (ap rule_in is) ∙ ap (λ p. nodes_of (unwrap_or p never)) (sym (ap rule_in is)))
    by_test false test =
        let none = no_term start ns (grind (arith, nat_tests)) in
        let e = extended start ns (No ∷ []) never is_draft.0 (ap (λ side. side ++ No ∷ []) none) in
        (e.0.0, ap (λ (o : Open). o.left) e.1, drop-append start ns (No ∷ []) (start_within start ns is_draft.0) ∙ ap (λ side. side ++ No ∷ []) none ∙ ap (λ side. nodes_of (unwrap_or (rule_in side) never)) (sym none))

-- behind a slash
pub behind_slash : (ns : List Node) (rule : Rule) (jump : Node) (start : ℕ) → ns ≡ nodes_of rule → start ≡ length (ns ++ jump ∷ [])
    → IsDraft start (ns ++ jump ∷ []) × (open_in start (ns ++ jump ∷ []) ≡ record { left = Some rule; product = None })
behind_slash ns rule jump start are is_start =
    let all = ns ++ jump ∷ [] in
    let long : length all ≡ suc (length ns) = omega (arith, length-append ns (jump ∷ [])) in
    let front : take (length ns) all ≡ ns = take-append_seam ns (jump ∷ []) in
    let none : drop (suc (length ns)) all ≡ [] = no_term (suc (length ns)) all (omega arith) in
    let fits : IsDraft (suc (length ns)) all × (open_in (suc (length ns)) all ≡ record { left = Some rule; product = None }) = (
      ((omega arith, front ∙ are ∙ ap nodes_of (sym (reads rule (take (length ns) all) (front ∙ are)))), none ∙ ap (λ side. nodes_in (rule_in side)) (sym none)),
      ap (λ side. record { left = Some (rule_of (take (length ns) all)); product = rule_in side }) none
          ∙ ap (λ r. record { left = Some r; product = None }) (reads rule (take (length ns) all) (front ∙ are)),
    ) in
    subst (λ k. IsDraft k all × (open_in k all ≡ record { left = Some rule; product = None })) (sym (is_start ∙ long)) fits

-- the jump over the last term gets its size, and the connective closes the list
pub whole_ended : (start s : ℕ) (ns ended result : List Node) (e : Open) → open_in start ns ≡ e → IsDraft start ns → ended ≡ with_term start ns → (start ≡ 0 → ⊥)
    → s ≡ length (drop start ended) → result ≡ set ended (start - 1) (WhenFalse s) ++ Or s ∷ [] → result ≡ nodes_of (whole e)
whole_ended zero s ns ended result e view is_draft is_ended some size is_result = absurd (some refl)
whole_ended (suc at) s ns ended result e view is_draft is_ended some size is_result =
    let (left, same_left, term) = subst (Ends (suc at) ns) (sym is_ended) (term_ended (suc at) ns is_draft) in
    let product = unwrap_or (rule_in (drop (suc at) ns)) never in
    let place : suc at - 1 ≡ at = omega arith in
    let split : result ≡ take at ended ++ WhenFalse s ∷ (drop (suc at) ended ++ Or s ∷ []) =
    is_result ∙ ap (λ k. set ended k (WhenFalse s) ++ Or s ∷ []) place ∙ ap (λ xs. xs ++ Or s ∷ []) (set_split ended at (WhenFalse s) left.0)
    ∙ append_assoc (take at ended) (WhenFalse s ∷ drop (suc at) ended) (Or s ∷ []) in
    let same : rule_of (take at ended) ≡ rule_of (take at ns) = cc in
    split ∙ either_joined (rule_of (take at ended)) product (take at ended) (drop (suc at) ended) s left.1 term size
    ∙ ap (λ r. nodes_of (either r product)) same ∙ ap (λ o. nodes_of (whole o)) view
