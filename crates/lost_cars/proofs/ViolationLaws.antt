-- The formulas of violations are true just where a rule isn't kept. They are not large.
use Rattle.std.proofs.Common.{◌≡◌, ℕ, zero, suc, ◌+◌, ◌*◌, ◌^◌, ◌<◌, ◌≤◌, Bool, true, false, not, ◌&&◌, ◌||◌, ◌==◌, cond, List, [], ◌∷◌, Some, None, length, nat_le, refl, sym, ap, ◌∙◌, inl, inr, arith}
use Rattle.std.proofs.Math.Bool.{or-false, or_assoc}
use Rattle.std.proofs.lemmas.Bool.Decides.{nat_tests}
use Rattle.std.specs.List.{filter, list_any, AllByRecursion}
use Rattle.std.proofs.lemmas.Bool.{cases_Bool, cases_lt, cases_eq, cond-true, cond-false, and_from, lt-ltb, le-leb, lt-leb, eq-eqb, ne_eqb}
use Rattle.std.proofs.lemmas.List.Elements.{recursion_from_All}
use Rattle.pb_base.specs.Leaves.{with_leaves}
use Rattle.pb_base.specs.Node.{size, size_with}
use Rattle.pb_base.specs.Rule.{Rule, code, negation, both, either, always, never, holds, codes_below, nodes}
use Rattle.pb_base.specs.Sets.{has}
use Rattle.pb_base.specs.declared.node.Leaf.{Leaf}
use Rattle.pb_base.proofs.LeafLaws.{nodes-with_leaves}
use Rattle.book_model.specs.Book.{DemandFits, SupplementFits}
use Rattle.book_model.specs.Good.{is_met, present}
use Rattle.book_model.specs.declared.demand.Demand.{Demand}
use Rattle.book_model.specs.declared.demand.Demand.TheVariants as demand
use Rattle.book_model.specs.declared.record.Supplement.{Supplement}
use Rattle.lost_cars.specs.Violation.{any_from, any_of, two_from, two_of, firing, unmet}

any_from_holds : (x : List Bool) (cs : List ℕ) (f : Rule) → holds (any_from f cs) x ≡ (holds f x || list_any (has x) cs)
any_from_holds x [] f = sym (or-false (holds f x))
any_from_holds x (c ∷ cs) f = any_from_holds x cs (either f (code c)) ∙ or_assoc (holds f x) (has x c) (list_any (has x) cs)

some_present : (x : List Bool) (cs : List ℕ) → list_any (has x) cs ≡ nat_le 1 (present x cs)
some_present x [] = refl
some_present x (c ∷ cs) = elim (cases_Bool (has x c)) [
  | inl is ↦ rw is (sym (le-leb 1 (suc (present x cs)) (omega arith)))
  | inr is ↦ rw is (some_present x cs)
]

any_of_holds : (x : List Bool) (cs : List ℕ) → holds (any_of cs) x ≡ nat_le 1 (present x cs)
any_of_holds x cs = any_from_holds x cs never ∙ some_present x cs

two_or_more : (p : ℕ) → (nat_le 1 p || nat_le 2 p) ≡ nat_le 2 (suc p)
two_or_more p = grind (arith, nat_tests)

two_from_holds : (x : List Bool) (cs : List ℕ) (f : Rule) → holds (two_from f cs) x ≡ (holds f x || nat_le 2 (present x cs))
two_from_holds x [] f = sym (or-false (holds f x))
two_from_holds x (c ∷ cs) f =
    let p : ℕ = present x cs in
    rw (two_from_holds x cs (either f (both (code c) (any_of cs))), any_of_holds x cs, or_assoc)
    (ap (λ t. holds f x || t) (elim (cases_Bool (has x c)) [
      | inl is ↦ rw is (two_or_more p)
      | inr is ↦ rw is refl
    ]))

two_of_holds : (x : List Bool) (cs : List ℕ) → holds (two_of cs) x ≡ nat_le 2 (present x cs)
two_of_holds x cs = two_from_holds x cs never

more_than_one : (p : ℕ) → nat_le 2 p ≡ not (nat_le p 1)
more_than_one p = grind (arith, nat_tests)

not_just_one : (p : ℕ) → (not (nat_le 1 p) || nat_le 2 p) ≡ not (p == 1)
not_just_one p = grind (arith, nat_tests)

broken_on : (p q : Bool) → (p && not q) ≡ not (not p || q)
broken_on p q = grind arith

pub unmet_holds : (x : List Bool) (d : Demand) → holds (unmet d) x ≡ not (is_met x d)
unmet_holds x (demand.Rule None rule) = refl
unmet_holds x (demand.Rule (Some place) rule) = broken_on (has x place) (holds rule x)
unmet_holds x (demand.One group) =
    ap (λ t. not t || holds (two_of group) x) (any_of_holds x group) ∙ ap (λ t. not (nat_le 1 (present x group)) || t) (two_of_holds x group)
    ∙ not_just_one (present x group)
unmet_holds x (demand.Most group) = two_of_holds x group ∙ more_than_one (present x group)

-- their codes

any_from_below : (n : ℕ) (cs : List ℕ) (f : Rule) → codes_below n f ≡ true → AllByRecursion (λ c. c < n) cs → codes_below n (any_from f cs) ≡ true
any_from_below n [] f below within = below
any_from_below n (c ∷ cs) f below within = any_from_below n cs (either f (code c)) (and_from _ _ below (lt-ltb c n within.0)) within.1

two_from_below : (n : ℕ) (cs : List ℕ) (f : Rule) → codes_below n f ≡ true → AllByRecursion (λ c. c < n) cs → codes_below n (two_from f cs) ≡ true
two_from_below n [] f below within = below
two_from_below n (c ∷ cs) f below within =
    two_from_below n cs (either f (both (code c) (any_of cs)))
    (and_from _ _ below (and_from _ _ (lt-ltb c n within.0) (any_from_below n cs never refl within.1))) within.1

pub firing_below : (n : ℕ) (s : Supplement) → SupplementFits n s → codes_below n (firing s) ≡ true
firing_below n s fits = and_from _ _ fits.rule.in_range (lt-ltb s.code n fits.code)

pub unmet_below : (n : ℕ) (d : Demand) → DemandFits n d → codes_below n (unmet d) ≡ true
unmet_below n (demand.Rule None rule) fits = fits.rule.in_range
unmet_below n (demand.Rule (Some place) rule) fits = and_from _ _ (lt-ltb place n fits.on) fits.rule.in_range
unmet_below n (demand.One group) fits =
    let within = recursion_from_All (λ (c : ℕ). c < n) group fits.in_range in
    and_from _ _ (any_from_below n group never refl within) (two_from_below n group never refl within)
unmet_below n (demand.Most group) fits = two_from_below n group never refl (recursion_from_All (λ (c : ℕ). c < n) group fits.in_range)

-- and their sizes

kept_nodes : (f : Rule) (more : ℕ) → size_with f more ≤ 2 * nodes f + more
kept_nodes (code place) more = omega arith
kept_nodes (negation f) more = omega (arith, kept_nodes f (suc more))
kept_nodes (both f g) more = omega (arith, kept_nodes g (suc more), kept_nodes f (suc (size_with g (suc more))))
kept_nodes (either f g) more = omega (arith, kept_nodes g (suc more), kept_nodes f (suc (size_with g (suc more))))
kept_nodes always more = omega arith
kept_nodes never more = omega arith

any_from_nodes : (cs : List ℕ) (f : Rule) → nodes (any_from f cs) ≡ nodes f + 2 * length cs
any_from_nodes [] f = omega arith
any_from_nodes (c ∷ cs) f = omega (arith, any_from_nodes cs (either f (code c)))

two_from_nodes : (cs : List ℕ) (f : Rule) → length cs ≤ 64 → nodes (two_from f cs) ≤ nodes f + 140 * length cs
two_from_nodes [] f few = omega arith
two_from_nodes (c ∷ cs) f few =
    omega (arith, two_from_nodes cs (either f (both (code c) (any_of cs))) (omega (arith, few)), any_from_nodes cs never, few)

firing_nodes : (n : ℕ) (s : Supplement) → SupplementFits n s → nodes (firing s) ≤ 600
firing_nodes n s fits = omega (arith, fits.rule.size)

unmet_nodes : (n : ℕ) (d : Demand) → DemandFits n d → nodes (unmet d) ≤ 10000
unmet_nodes n (demand.Rule None rule) fits = omega (arith, fits.rule.size)
unmet_nodes n (demand.Rule (Some place) rule) fits = omega (arith, fits.rule.size)
unmet_nodes n (demand.One group) fits = omega (arith, any_from_nodes group never, two_from_nodes group never fits.most, fits.most)
unmet_nodes n (demand.Most group) fits = omega (arith, two_from_nodes group never fits.most, fits.most)

read_small : (leaf : ℕ → Leaf) (f : Rule) → nodes f ≤ 10000 → size (with_leaves leaf f) ≤ 2 ^ 30
read_small leaf f few = omega (arith, kept_nodes (with_leaves leaf f) 0, nodes-with_leaves leaf f, few)

pub firing_small : (leaf : ℕ → Leaf) (n : ℕ) (s : Supplement) → SupplementFits n s → size (with_leaves leaf (firing s)) ≤ 2 ^ 30
firing_small leaf n s fits = read_small leaf (firing s) (omega (arith, firing_nodes n s fits))

pub unmet_small : (leaf : ℕ → Leaf) (n : ℕ) (d : Demand) → DemandFits n d → size (with_leaves leaf (unmet d)) ≤ 2 ^ 30
unmet_small leaf n d fits = read_small leaf (unmet d) (unmet_nodes n d fits)
