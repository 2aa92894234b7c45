-- The clauses of items hold just where each variable is the truth of what it stands for and each claim is met.
use Rattle.std.proofs.Common.{◌≡◌, ℕ, ◌+◌, ◌≤◌, ◌<◌, Bool, List, [], ◌∷◌, ◌++◌, length, map, refl, sym, ap, subst, ◌∙◌, arith, append_assoc, length-append}
use Rattle.std.proofs.lemmas.Bool.{and_parts}
use Rattle.pb_base.specs.Rule.{Rule, holds, codes_below}
use Rattle.pb_base.specs.Sets.{has}
use Rattle.clause_pool.specs.Literal.{is_true}
use Rattle.clause_pool.specs.Clause.{Sat}
use Rattle.clausify.specs.Items.{Item, free_item, variables_of}
use Rattle.clausify.proofs.FormulaLaws.{Names, Begins, names-append, names_first, names_last}
use Rattle.clausify.proofs.ItemLaws.{AllBelow, AllFit, AllMeet, claim_fits, claim_from_sat, sat_from_claim}
use Rattle.clausify.proofs.LiftLaws.{lifted, lifted_begins, lifted_named, sat_from_truth, truth_from_sat}
use Rattle.clausify.proofs.ListLaws.{all-append, all_first, all_last}
use Rattle.wide_clauses.specs.Chains.{alone, wide_clauses, wide_literal, wide_variables}
use Rattle.wide_clauses.specs.WideItems.{taken_by, wide_literals, wide_own, wide_item_clauses, wide_items}
use Rattle.wide_clauses.proofs.ChainLaws.{named, length-named, taken_most, wide_denotes, sat_from_chain, chain_from_sat}

-- what the variables of the items stand for
abbrev pub wide_named : List Item → List Rule
wide_named [] = []
wide_named (i ∷ is) = named i.rule alone ++ wide_named is

pub length-wide_named : (is : List Item) → length (wide_named is) ≡ taken_by is
length-wide_named [] = refl
length-wide_named (i ∷ is) = length-append (named i.rule alone) (wide_named is) ∙ omega (arith, length-named i.rule alone, length-wide_named is)

pub wide_named-append : (is js : List Item) → wide_named (is ++ js) ≡ wide_named is ++ wide_named js
wide_named-append [] js = refl
wide_named-append (i ∷ is) js = ap (λ (fs : List Rule). named i.rule alone ++ fs) (wide_named-append is js) ∙ sym (append_assoc (named i.rule alone) (wide_named is) (wide_named js))

pub taken_by-append : (is js : List Item) → taken_by (is ++ js) ≡ taken_by is + taken_by js
taken_by-append [] js = omega arith
taken_by-append (i ∷ is) js = omega (arith, taken_by-append is js)

pub taken_by_most : (is : List Item) → taken_by is ≤ variables_of is
taken_by_most [] = omega arith
taken_by_most (i ∷ is) = omega (arith, taken_most i.rule alone, taken_by_most is)

pub wide_item_clauses-append : (n v : ℕ) (is js : List Item) → wide_item_clauses n v (is ++ js) ≡ wide_item_clauses n v is ++ wide_item_clauses n (v + taken_by is) js
wide_item_clauses-append n v [] js = ap (λ (w : ℕ). wide_item_clauses n w js) (let e : v ≡ v + 0 = omega arith in e)
wide_item_clauses-append n v (i ∷ is) js =
    ap (λ (cs : List (List ℕ)). wide_own n v i ++ cs) (wide_item_clauses-append n (v + wide_variables i.rule) is js)
    ∙ sym (append_assoc (wide_own n v i) (wide_item_clauses n (v + wide_variables i.rule) is) _)
    ∙ ap (λ (w : ℕ). wide_item_clauses n v (i ∷ is) ++ wide_item_clauses n w js) (let e : v + wide_variables i.rule + taken_by is ≡ v + taken_by (i ∷ is) = omega arith in e)

first_names : (a : ℕ → Bool) (x : List Bool) (v : ℕ) (i : Item) (is : List Item) → Names a x v (wide_named (i ∷ is)) → Names a x v (named i.rule alone)
first_names a x v i is h = names_first a x v (named i.rule alone) (wide_named is) h

later_names : (a : ℕ → Bool) (x : List Bool) (v : ℕ) (i : Item) (is : List Item) → Names a x v (wide_named (i ∷ is)) → Names a x (v + wide_variables i.rule) (wide_named is)
later_names a x v i is h = subst (λ (k : ℕ). Names a x (v + k) (wide_named is)) (length-named i.rule alone) (names_last a x v (named i.rule alone) (wide_named is) h)

module _ {m : ℕ} (n : ℕ) (x : List Bool) (a : ℕ → Bool) (b : Begins m n x a) where
  pub sat_from_wide : (v : ℕ) (is : List Item) → AllFit m is → Names a x v (wide_named is) → AllMeet x is → Sat (wide_item_clauses n v is) a
  sat_from_wide v [] fit names met = tt
  sat_from_wide v (i ∷ is) fit names met =
      let fits = and_parts (codes_below m i.rule) (claim_fits m i.claim) fit.0 in
      let here = first_names a x v i is names in
      all-append _ (wide_own n v i) _
      (all-append _ (wide_clauses n v i.rule alone) _ (sat_from_chain n x a b v i.rule alone fits.0 here)
      (sat_from_claim n x a b i.claim (wide_literal n v i.rule) (holds i.rule x) fits.1 (wide_denotes n x a b v i.rule fits.0 here) met.0))
      (sat_from_wide (v + wide_variables i.rule) is fit.1 (later_names a x v i is names) met.1)

  pub names_from_wide : (v : ℕ) (is : List Item) → AllFit m is → Sat (wide_item_clauses n v is) a → Names a x v (wide_named is)
  names_from_wide v [] fit h = tt
  names_from_wide v (i ∷ is) fit h =
      let fits = and_parts (codes_below m i.rule) (claim_fits m i.claim) fit.0 in
      let own = all_first _ (wide_own n v i) _ h in
      let rest = all_last _ (wide_own n v i) _ h in
      names-append a x v (named i.rule alone) (wide_named is)
      (chain_from_sat n x a b v i.rule alone fits.0 (all_first _ (wide_clauses n v i.rule alone) _ own))
      (subst (λ (k : ℕ). Names a x (v + k) (wide_named is)) (sym (length-named i.rule alone)) (names_from_wide (v + wide_variables i.rule) is fit.1 rest))

  pub meets_from_wide : (v : ℕ) (is : List Item) → AllFit m is → Sat (wide_item_clauses n v is) a → AllMeet x is
  meets_from_wide v [] fit h = tt
  meets_from_wide v (i ∷ is) fit h =
      let fits = and_parts (codes_below m i.rule) (claim_fits m i.claim) fit.0 in
      let own = all_first _ (wide_own n v i) _ h in
      let rest = all_last _ (wide_own n v i) _ h in
      let names = chain_from_sat n x a b v i.rule alone fits.0 (all_first _ (wide_clauses n v i.rule alone) _ own) in (
        claim_from_sat n x a b i.claim (wide_literal n v i.rule) (holds i.rule x) fits.1 (wide_denotes n x a b v i.rule fits.0 names) (all_last _ (wide_clauses n v i.rule alone) _ own),
        meets_from_wide (v + wide_variables i.rule) is fit.1 rest,
      )

  -- the literals of formulas of which nothing is claimed are their truth
  pub wide_literals_true : (v : ℕ) (fs : List Rule) → AllBelow m fs → Names a x v (wide_named (map free_item fs)) → map (is_true a) (wide_literals n v fs) ≡ map (λ f. holds f x) fs
  wide_literals_true v [] below names = refl
  wide_literals_true v (f ∷ fs) below names =
      ap (λ (t : Bool). t ∷ map (is_true a) (wide_literals n (v + wide_variables f) fs)) (wide_denotes n x a b v f below.0 (first_names a x v (free_item f) (map free_item fs) names))
      ∙ ap (λ (ts : List Bool). holds f x ∷ ts) (wide_literals_true (v + wide_variables f) fs below.1 (later_names a x v (free_item f) (map free_item fs) names))

-- what begins with a set that meets the items, and has the truth of their rules and of further ones, satisfies the clauses
pub record IsWideLifted (n : ℕ) (is : List Item) (own : List Rule) (x : List Bool) (a : ℕ → Bool) : Type 0 where
  pub begins : Begins n n x a
  pub names : Names a x (n + 1) (wide_named is ++ own)
  pub satisfies : Sat (wide_items n is) a

pub lift_wide : (n : ℕ) (is : List Item) (own : List Rule) (x : List Bool) → AllFit n is → AllMeet x is → IsWideLifted n is own x (lifted n (n + 1) x (wide_named is ++ own))
lift_wide n is own x fit met =
    let a : ℕ → Bool = lifted n (n + 1) x (wide_named is ++ own) in
    let begins : Begins n n x a = lifted_begins n n (n + 1) x (wide_named is ++ own) (omega arith) (λ (h : n < n). absurd (omega arith)) in
    let names : Names a x (n + 1) (wide_named is ++ own) = lifted_named n (n + 1) x (wide_named is ++ own) (omega arith) in
    record {
      begins = begins;
      names = names;
      satisfies = (sat_from_truth n a begins.truth, sat_from_wide n x a begins (n + 1) is fit (names_first a x (n + 1) (wide_named is) own names) met);
    }

-- what satisfies the clauses begins with such a set
pub record IsWideOver (n : ℕ) (is : List Item) (x : List Bool) (a : ℕ → Bool) : Type 0 where
  pub begins : Begins n n x a
  pub names : Names a x (n + 1) (wide_named is)
  pub meets : AllMeet x is

pub wide_over : (n : ℕ) (is : List Item) (x : List Bool) (a : ℕ → Bool) → AllFit n is → ((i : ℕ) → i < n → a i ≡ has x i) → Sat (wide_items n is) a → IsWideOver n is x a
wide_over n is x a fit codes sat =
    let begins : Begins n n x a = record { codes = codes; truth = truth_from_sat n a sat.0 } in
    record {
      begins = begins;
      names = names_from_wide n x a begins (n + 1) is fit sat.1;
      meets = meets_from_wide n x a begins (n + 1) is fit sat.1;
    }
