-- The clauses of guarded items are satisfied over just the sets that meet each item whose guard they have.
use Rattle.std.proofs.Common.{inl, inr, ◌≡◌, ℕ, ◌+◌, ◌<◌, Bool, true, false, not, ◌||◌, List, [], ◌∷◌, ◌++◌, Option, None, Some, length, refl, sym, subst, ◌∙◌, arith}
use Rattle.std.specs.List.{AllByRecursion}
use Rattle.std.specs.Option.{IfSome}
use Rattle.std.proofs.lemmas.Bool.{and_parts, and_from, cases_Bool, false≢true}
use Rattle.pb_base.specs.Rule.{Rule, holds, codes_below}
use Rattle.pb_base.specs.Sets.{has}
use Rattle.clause_pool.specs.Clause.{Sat}
use Rattle.clausify.specs.Formulas.{connectives, formula_literal, formula_clauses}
use Rattle.clausify.specs.Items.{Item, own_clauses, claim_clauses, claim_literals, claim_where}
use Rattle.clausify.specs.Lifting.{CodesJust}
use Rattle.clausify.proofs.FormulaLaws.{named_in, Names, Begins, length-named_in, names-append, names_first, names_last, denotes, sat_from_names, names_from_sat}
use Rattle.clausify.proofs.ItemLaws.{meets, item_fits, claim_fits, items_named, length-items_named, sat_from_items, claim_from_sat}
use Rattle.clausify.proofs.LiftLaws.{lifted, lifted_begins, lifted_named, alone_named, truth_from_sat, sat_from_truth}
use Rattle.clausify.proofs.ListLaws.{all-append, all_first, all_last}
use Rattle.guarded_rules.specs.Guarded.{GuardedItem, guarded_own, guarded_clauses, encoded_guarded, items_of, guarded_variables, is_on, meets_guarded, meets_all_guarded, AllGuardedFit}
use Rattle.guarded_rules.proofs.GuardLaws.{sat_where_off, sat_where_on, on_from_sat}

abbrev pub AllMeetGuarded : List Bool → List GuardedItem → Type 0
AllMeetGuarded x is = AllByRecursion (λ i. meets_guarded x i ≡ true) is

pub met_from_all : (x : List Bool) (is : List GuardedItem) → meets_all_guarded is x ≡ true → AllMeetGuarded x is
met_from_all x [] h = tt
met_from_all x (i ∷ is) h =
    let parts = and_parts (meets_guarded x i) (meets_all_guarded is x) h in
    (parts.0, met_from_all x is parts.1)

pub all_from_met : (x : List Bool) (is : List GuardedItem) → AllMeetGuarded x is → meets_all_guarded is x ≡ true
all_from_met x [] h = refl
all_from_met x (i ∷ is) h = and_from (meets_guarded x i) (meets_all_guarded is x) h.0 (all_from_met x is h.1)

-- where the guard is true, the item is met
pub met_where_on : (on m : Bool) → on ≡ true → (not on || m) ≡ true → m ≡ true
met_where_on true m e h = h
met_where_on false m e h = absurd (false≢true e)

pub met_where_off : (on m : Bool) → on ≡ false → (not on || m) ≡ true
met_where_off true m e = absurd (false≢true (sym e))
met_where_off false m e = refl

pub met_unless : (on m : Bool) → m ≡ true → (not on || m) ≡ true
met_unless true m e = e
met_unless false m e = refl

module _ {m : ℕ} (n : ℕ) (x : List Bool) (a : ℕ → Bool) (b : Begins m n x a) where
  -- the claim of an item that is met
  claim_sat : (v : ℕ) (i : Item) → item_fits m i ≡ true → Names a x v (named_in i.rule) → meets x i ≡ true → Sat (claim_clauses i.claim (formula_literal n v i.rule)) a
  claim_sat v i fit names met =
      let both : Sat (own_clauses n v i ++ []) a =
      sat_from_items n x a b v (i ∷ []) (fit, tt) (names-append a x v (named_in i.rule) [] names tt) (met, tt) in
      all_last _ (formula_clauses n v i.rule) _ (all_first _ (own_clauses n v i) [] both)

  sat_from_own : (v : ℕ) (g : Option ℕ) (i : Item) → IfSome g (λ k. k < m) → item_fits m i ≡ true → Names a x v (named_in i.rule) → (not (is_on x g) || meets x i) ≡ true
      → Sat (claim_where g i.claim (formula_literal n v i.rule)) a
  sat_from_own v None i low fit names met = claim_sat v i fit names met
  sat_from_own v (Some g) i low fit names met =
      elim (cases_Bool (has x g)) [
        | inl on ↦ sat_where_on a g (claim_literals i.claim (formula_literal n v i.rule)) (b.codes g low ∙ on) (claim_sat v i fit names (met_where_on (has x g) (meets x i) on met))
        | inr off ↦ sat_where_off a g (claim_literals i.claim (formula_literal n v i.rule)) (b.codes g low ∙ off)
      ]

  own_from_sat : (v : ℕ) (g : Option ℕ) (i : Item) → IfSome g (λ k. k < m) → item_fits m i ≡ true → Names a x v (named_in i.rule)
      → Sat (claim_where g i.claim (formula_literal n v i.rule)) a → (not (is_on x g) || meets x i) ≡ true
  own_from_sat v None i low fit names s =
      let fits = and_parts (codes_below m i.rule) (claim_fits m i.claim) fit in
      claim_from_sat n x a b i.claim (formula_literal n v i.rule) (holds i.rule x) fits.1 (denotes n x a b v i.rule fits.0 names) s
  own_from_sat v (Some g) i low fit names s =
      let fits = and_parts (codes_below m i.rule) (claim_fits m i.claim) fit in
      elim (cases_Bool (has x g)) [
        | inl on ↦
            met_unless (has x g) (meets x i)
            (claim_from_sat n x a b i.claim (formula_literal n v i.rule) (holds i.rule x) fits.1 (denotes n x a b v i.rule fits.0 names)
            (on_from_sat a g (claim_literals i.claim (formula_literal n v i.rule)) (b.codes g low ∙ on) s))
        | inr off ↦ met_where_off (has x g) (meets x i) off
      ]

  pub sat_from_guarded : (v : ℕ) (is : List GuardedItem) → AllGuardedFit m is → Names a x v (items_named (items_of is)) → AllMeetGuarded x is → Sat (guarded_clauses n v is) a
  sat_from_guarded v [] fit names met = tt
  sat_from_guarded v (i ∷ is) fit names met =
      let fits = and_parts (codes_below m i.item.rule) (claim_fits m i.item.claim) fit.0.item in
      let here = names_first a x v (named_in i.item.rule) (items_named (items_of is)) names in
      let later = subst (λ (k : ℕ). Names a x (v + k) (items_named (items_of is))) (length-named_in i.item.rule) (names_last a x v (named_in i.item.rule) (items_named (items_of is)) names) in
      all-append _ (guarded_own n v i) (guarded_clauses n (v + connectives i.item.rule) is)
      (all-append _ (formula_clauses n v i.item.rule) _ (sat_from_names n x a b v i.item.rule fits.0 here)
      (sat_from_own v i.guard i.item fit.0.guard fit.0.item here met.0))
      (sat_from_guarded (v + connectives i.item.rule) is fit.1 later met.1)

  pub names_from_guarded : (v : ℕ) (is : List GuardedItem) → AllGuardedFit m is → Sat (guarded_clauses n v is) a → Names a x v (items_named (items_of is))
  names_from_guarded v [] fit s = tt
  names_from_guarded v (i ∷ is) fit s =
      let fits = and_parts (codes_below m i.item.rule) (claim_fits m i.item.claim) fit.0.item in
      let own = all_first _ (guarded_own n v i) (guarded_clauses n (v + connectives i.item.rule) is) s in
      let rest = all_last _ (guarded_own n v i) (guarded_clauses n (v + connectives i.item.rule) is) s in
      names-append a x v (named_in i.item.rule) (items_named (items_of is))
      (names_from_sat n x a b v i.item.rule fits.0 (all_first _ (formula_clauses n v i.item.rule) _ own))
      (subst (λ (k : ℕ). Names a x (v + k) (items_named (items_of is))) (sym (length-named_in i.item.rule)) (names_from_guarded (v + connectives i.item.rule) is fit.1 rest))

  pub met_from_guarded : (v : ℕ) (is : List GuardedItem) → AllGuardedFit m is → Sat (guarded_clauses n v is) a → AllMeetGuarded x is
  met_from_guarded v [] fit s = tt
  met_from_guarded v (i ∷ is) fit s =
      let fits = and_parts (codes_below m i.item.rule) (claim_fits m i.item.claim) fit.0.item in
      let own = all_first _ (guarded_own n v i) (guarded_clauses n (v + connectives i.item.rule) is) s in
      let rest = all_last _ (guarded_own n v i) (guarded_clauses n (v + connectives i.item.rule) is) s in
      let names = names_from_sat n x a b v i.item.rule fits.0 (all_first _ (formula_clauses n v i.item.rule) _ own) in (
        own_from_sat v i.guard i.item fit.0.guard fit.0.item names (all_last _ (formula_clauses n v i.item.rule) _ own),
        met_from_guarded (v + connectives i.item.rule) is fit.1 rest,
      )

-- what an assignment that satisfies the clauses is over the set that it begins with
pub record IsOverGuarded (n : ℕ) (is : List GuardedItem) (x : List Bool) (a : ℕ → Bool) : Type 0 where
  pub begins : Begins n n x a
  pub names : Names a x (n + 1) (items_named (items_of is))
  pub meets : AllMeetGuarded x is

pub guarded_over : (n : ℕ) (is : List GuardedItem) (x : List Bool) (a : ℕ → Bool) → AllGuardedFit n is → ((i : ℕ) → i < n → a i ≡ has x i)
    → Sat (encoded_guarded n (n + 1) is) a → IsOverGuarded n is x a
guarded_over n is x a fit codes sat =
    let begins : Begins n n x a = record { codes = codes; truth = truth_from_sat n a sat.0 } in
    record {
      begins = begins;
      names = names_from_guarded n x a begins (n + 1) is fit sat.1;
      meets = met_from_guarded n x a begins (n + 1) is fit sat.1;
    }

-- the clauses, where just the sets that pass the test meet the items whose guards they have
pub guarded_code : (n : ℕ) (is : List GuardedItem) (test : List Bool → Bool) → AllGuardedFit n is
    → ((x : List Bool) → length x ≡ n → test x ≡ true → AllMeetGuarded x is)
    → ((x : List Bool) → length x ≡ n → AllMeetGuarded x is → test x ≡ true)
    → CodesJust n test (encoded_guarded n (n + 1) is) (n + 1 + guarded_variables is)
guarded_code n is test fit meets passes = record {
  lifts = λ x len pass.
      let fs : List Rule = items_named (items_of is) in
      let a : ℕ → Bool = lifted n (n + 1) x fs in
      let begins : Begins n n x a = lifted_begins n n (n + 1) x fs (omega arith) (λ (h : n < n). absurd (omega arith)) in
      let names : Names a x (n + 1) fs = lifted_named n (n + 1) x fs (omega arith) in (
        a,
        record {
          begins = λ i below. begins.codes i (omega (arith, len));
          satisfies = (sat_from_truth n a begins.truth, sat_from_guarded n x a begins (n + 1) is fit names (meets x len pass));
          alone = λ c starts sat v within.
              let o : IsOverGuarded n is x c = guarded_over n is x c fit (λ i below. starts i (omega (arith, len))) sat in
              alone_named n x a c fs begins o.begins names o.names v (omega (arith, length-items_named (items_of is)));
        },
      );
  begins_so = λ a x len begins sat.
      passes x len (guarded_over n is x a fit (λ i below. begins i (omega (arith, len))) sat).meets;
}

pub guarded_just : (n : ℕ) (is : List GuardedItem) → AllGuardedFit n is
    → CodesJust n (meets_all_guarded is) (encoded_guarded n (n + 1) is) (n + 1 + guarded_variables is)
guarded_just n is fit = guarded_code n is (meets_all_guarded is) fit (λ x len pass. met_from_all x is pass) (λ x len met. all_from_met x is met)
