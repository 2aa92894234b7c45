-- The rules that are asked can be asked: they are over the codes of the book, and small.
use Rattle.std.proofs.Common.{inl, inr, ◌≡◌, ℕ, suc, ◌+◌, ◌*◌, ◌^◌, ◌≤◌, Bool, true, List, [], ◌∷◌, length, map, sym, ap, subst, arith, All, length-append}
use Rattle.std.specs.List.{AllByRecursion, filter}
use Rattle.std.proofs.lemmas.Bool.{and_from, cases_Bool, cond-true, cond-false}
use Rattle.std.proofs.lemmas.List.Elements.{All-from_recursion, recursion_from_All}
use Rattle.pb_base.specs.Node.{size_with}
use Rattle.pb_base.specs.Rule.{Rule, code, negation, both, either, always, never, codes_below, nodes}
use Rattle.book_model.specs.Book.{IsBook, RuleFits, VariantFits}
use Rattle.book_model.specs.Contents.{Contents}
use Rattle.book_model.specs.declared.record.Slice.{Slice}
use Rattle.book_model.specs.declared.record.Variant.{Variant}
use Rattle.clausify.specs.Questions.{and_none}
use Rattle.clausify.proofs.ListLaws.{all-append}
use Rattle.requirements.specs.Requirements.{RequirementFits, rule_of_claim}
use Rattle.requirements.specs.declared.requirement.Claim.{Claim}
use Rattle.requirements.specs.declared.requirement.Claim.TheVariants.{Meets, Uses}
use Rattle.requirements.specs.declared.requirement.Requirement.{Requirement}
use Rattle.rules_met.specs.Met.{RuleIsSmall}
use Rattle.kept_requirements.specs.Kept.{carries, broken_rule, asked_rules, is_asked, meant_rules, rules_of, rules_on}

-- a formula is kept in at most twice as many nodes
kept_nodes : (f : Rule) (more : ℕ) → size_with f more ≤ 2 * nodes f + more
kept_nodes (code place) more = omega arith
kept_nodes (negation f) more = omega (arith, kept_nodes f (suc more))
kept_nodes (both f g) more = omega (arith, kept_nodes g (suc more), kept_nodes f (suc (size_with g (suc more))))
kept_nodes (either f g) more = omega (arith, kept_nodes g (suc more), kept_nodes f (suc (size_with g (suc more))))
kept_nodes always more = omega arith
kept_nodes never more = omega arith

small_of : (n : ℕ) (f : Rule) → codes_below n f ≡ true → nodes f ≤ 2 ^ 29 → RuleIsSmall n f
small_of n f below few = record { in_range = below; small = omega (arith, kept_nodes f 0, few) }

-- the usages of variants, each of few nodes
unused_nodes : (n m : ℕ) (w : Variant → Bool) (f : Rule) (vs : List Variant) → AllByRecursion (VariantFits n m) vs
    → nodes (and_none f (map (λ (v : Variant). v.rule) (filter w vs))) ≤ nodes f + 514 * length vs
unused_nodes n m w f [] fit = omega arith
unused_nodes n m w f (v ∷ vs) fit =
    let rules : List Variant → ℕ = λ ks. nodes (and_none f (map (λ (k : Variant). k.rule) ks)) in
    elim (cases_Bool (w v)) [
      | inl e ↦
          let with_one : rules (filter w (v ∷ vs)) ≡ nodes (and_none (both f (negation v.rule)) (map (λ (k : Variant). k.rule) (filter w vs))) =
          ap rules (cond-true (w v) (v ∷ filter w vs) (filter w vs) e) in
          omega (arith, with_one, unused_nodes n m w (both f (negation v.rule)) vs fit.1, fit.0.rule.size)
      | inr e ↦ omega (arith, ap rules (cond-false (w v) (v ∷ filter w vs) (filter w vs) e), unused_nodes n m w f vs fit.1)
    ]

unused_below : (n m : ℕ) (w : Variant → Bool) (f : Rule) (vs : List Variant) → AllByRecursion (VariantFits n m) vs → codes_below n f ≡ true
    → codes_below n (and_none f (map (λ (v : Variant). v.rule) (filter w vs))) ≡ true
unused_below n m w f [] fit below = below
unused_below n m w f (v ∷ vs) fit below =
    let test : List Variant → Bool = λ ks. codes_below n (and_none f (map (λ (k : Variant). k.rule) ks)) in
    elim (cases_Bool (w v)) [
      | inl e ↦
          subst (λ (t : Bool). t ≡ true) (sym (ap test (cond-true (w v) (v ∷ filter w vs) (filter w vs) e)))
          (unused_below n m w (both f (negation v.rule)) vs fit.1 (and_from (codes_below n f) (codes_below n v.rule) below fit.0.rule.in_range))
      | inr e ↦
          subst (λ (t : Bool). t ≡ true) (sym (ap test (cond-false (w v) (v ∷ filter w vs) (filter w vs) e))) (unused_below n m w f vs fit.1 below)
    ]

module _ (b : Contents) (book : IsBook b) where
  variants_fit : AllByRecursion (VariantFits (length b.codes) (length b.positions)) b.variants
  variants_fit = recursion_from_All (VariantFits (length b.codes) (length b.positions)) b.variants book.variants_fit

  broken_small : (day : ℕ) (r : Requirement) → RequirementFits (length b.codes) r → RuleIsSmall (length b.codes) (broken_rule b day r.claim)
  broken_small day r fits = by r.claim fits.rule
    where
      by : (c : Claim) → RuleFits (length b.codes) (rule_of_claim c) → RuleIsSmall (length b.codes) (broken_rule b day c)
      by (Meets rule) h = small_of (length b.codes) (negation rule) h.in_range (omega (arith, h.size))
      by (Uses part rule) h =
          small_of (length b.codes) (broken_rule b day (Uses part rule))
          (unused_below (length b.codes) (length b.positions) (carries b day part) rule b.variants variants_fit h.in_range)
          (omega (arith, unused_nodes (length b.codes) (length b.positions) (carries b day part) rule b.variants variants_fit, h.size, book.variants_limit))

  asked_small : (day : ℕ) (r : Requirement) → RequirementFits (length b.codes) r → AllByRecursion (RuleIsSmall (length b.codes)) (asked_rules b day r.claim)
  asked_small day r fits = (broken_small day r fits, meant_small r.claim fits.rule)
    where
      meant_small : (c : Claim) → RuleFits (length b.codes) (rule_of_claim c)
          → AllByRecursion (RuleIsSmall (length b.codes)) (meant_rules c)
      meant_small (Meets rule) h = tt
      meant_small (Uses part rule) h = (small_of (length b.codes) rule h.in_range (omega (arith, h.size)), tt)

  rules_small_of : (s : Slice) (r : Requirement) → RequirementFits (length b.codes) r → AllByRecursion (RuleIsSmall (length b.codes)) (rules_of b s r)
  rules_small_of s r fits =
      elim (cases_Bool (is_asked r s)) [
        | inl e ↦ subst (AllByRecursion (RuleIsSmall (length b.codes))) (sym (cond-true (is_asked r s) (asked_rules b s.first r.claim) [] e)) (asked_small s.first r fits)
        | inr e ↦ subst (AllByRecursion (RuleIsSmall (length b.codes))) (sym (cond-false (is_asked r s) (asked_rules b s.first r.claim) [] e)) tt
      ]

  all_small : (s : Slice) (rs : List Requirement) → AllByRecursion (RequirementFits (length b.codes)) rs → AllByRecursion (RuleIsSmall (length b.codes)) (rules_on b s rs)
  all_small s [] fit = tt
  all_small s (r ∷ rs) fit = all-append _ (rules_of b s r) (rules_on b s rs) (rules_small_of s r fit.0) (all_small s rs fit.1)

  pub rules_small : (s : Slice) (rs : List Requirement) → All (RequirementFits (length b.codes)) rs → All (RuleIsSmall (length b.codes)) (rules_on b s rs)
  rules_small s rs fit =
      All-from_recursion (RuleIsSmall (length b.codes)) (rules_on b s rs) (all_small s rs (recursion_from_All (RequirementFits (length b.codes)) rs fit))

-- two rules at most for each requirement
claim_few : (b : Contents) (day : ℕ) (c : Claim) → length (asked_rules b day c) ≤ 2
claim_few b day (Meets rule) = omega arith
claim_few b day (Uses part rule) = omega arith

one_few : (b : Contents) (s : Slice) (r : Requirement) → length (rules_of b s r) ≤ 2
one_few b s r =
    elim (cases_Bool (is_asked r s)) [
      | inl e ↦ omega (arith, ap length (cond-true (is_asked r s) (asked_rules b s.first r.claim) [] e), claim_few b s.first r.claim)
      | inr e ↦ omega (arith, ap length (cond-false (is_asked r s) (asked_rules b s.first r.claim) [] e))
    ]

pub rules_few : (b : Contents) (s : Slice) (rs : List Requirement) → length (rules_on b s rs) ≤ 2 * length rs
rules_few b s [] = omega arith
rules_few b s (r ∷ rs) = omega (arith, length-append (rules_of b s r) (rules_on b s rs), one_few b s r, rules_few b s rs)
