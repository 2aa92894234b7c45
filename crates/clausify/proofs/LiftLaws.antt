-- The clauses of items over a set: the assignment that begins with the set, and gives each further variable the truth of the rule
-- that it stands for, satisfies them where the set meets the items; and what satisfies them begins with a set that meets them.
use Rattle.std.proofs.Common.{inl, inr, ◌≡◌, ◌≢◌, ℕ, zero, suc, ◌+◌, ◌-◌, ◌<◌, ◌≤◌, Bool, true, false, ◌||◌, cond, eqb, ltb, List, [], ◌∷◌, ◌++◌, get_or, length, refl, sym, ap, subst, ◌∙◌, arith}
use Rattle.std.proofs.lemmas.Bool.{cond-true, cond-false, lt-ltb, le-ltb, eq-eqb, ne_eqb, cases_lt, cases_eq}
use Rattle.pb_base.specs.Rule.{Rule, always, holds}
use Rattle.pb_base.specs.Sets.{has}
use Rattle.clause_pool.specs.Literal.{literal}
use Rattle.clause_pool.specs.Clause.{clause_of, clause_true, Sat}
use Rattle.clausify.specs.Items.{Item, encoded_items, variables_of}
use Rattle.clausify.specs.Lifting.{CodesJust}
use Rattle.clausify.proofs.Truth.{true_positive, one_true}
use Rattle.clausify.proofs.FormulaLaws.{Names, Begins, names_first}
use Rattle.clausify.proofs.ItemLaws.{AllFit, AllMeet, items_named, length-items_named, sat_from_items, names_from_items, meets_from_items}

-- variable n is true, the others below w are the set's codes, and those from w on have the truth of the rules
abbrev pub lifted : ℕ → ℕ → List Bool → List Rule → ℕ → Bool
lifted n w x fs v = cond (eqb v n) true (cond (ltb v w) (has x v) (holds (get_or fs (v - w) always) x))

lifted-truth : (n w : ℕ) (x : List Bool) (fs : List Rule) → lifted n w x fs n ≡ true
lifted-truth n w x fs = cond-true _ _ _ (eq-eqb n n refl)

lifted-code : (n w : ℕ) (x : List Bool) (fs : List Rule) (v : ℕ) → v < w → v ≢ n → lifted n w x fs v ≡ has x v
lifted-code n w x fs v below other = cond-false _ _ _ (ne_eqb v n other) ∙ cond-true _ _ _ (lt-ltb v w below)

lifted-rule : (n w : ℕ) (x : List Bool) (fs : List Rule) (k : ℕ) → n < w → lifted n w x fs (w + k) ≡ holds (get_or fs k always) x
lifted-rule n w x fs k h =
    cond-false _ _ _ (ne_eqb (w + k) n (λ (e : w + k ≡ n). omega arith)) ∙ cond-false _ _ _ (le-ltb (w + k) w (omega arith))
    ∙ ap (λ (j : ℕ). holds (get_or fs j always) x) (let e : w + k - w ≡ k = omega arith in e)

-- the rules from place p on
lifted_names : (n w : ℕ) (x : List Bool) (all : List Rule) → n < w → (p : ℕ) (fs : List Rule) → ((k : ℕ) → get_or all (p + k) always ≡ get_or fs k always) → Names (lifted n w x all) x (w + p) fs
lifted_names n w x all h p [] rest = tt
lifted_names n w x all h p (f ∷ fs) rest = (
  lifted-rule n w x all p h ∙ ap (λ (g : Rule). holds g x) (ap (λ (j : ℕ). get_or all j always) (let e : p ≡ p + 0 = omega arith in e) ∙ rest 0),
  subst (λ (v : ℕ). Names (lifted n w x all) x v fs) (let e : w + (p + 1) ≡ w + p + 1 = omega arith in e)
      (lifted_names n w x all h (p + 1) fs (λ k. ap (λ (j : ℕ). get_or all j always) (let e : p + 1 + k ≡ p + suc k = omega arith in e) ∙ rest (suc k))),
)

pub lifted_named : (n w : ℕ) (x : List Bool) (fs : List Rule) → n < w → Names (lifted n w x fs) x w fs
lifted_named n w x fs h =
    subst (λ (v : ℕ). Names (lifted n w x fs) x v fs) (let e : w + 0 ≡ w = omega arith in e)
    (lifted_names n w x fs h 0 fs (λ k. ap (λ (j : ℕ). get_or fs j always) (let e : 0 + k ≡ k = omega arith in e)))

-- where variable n is among the codes, the set has it
pub lifted_begins : (m n w : ℕ) (x : List Bool) (fs : List Rule) → m ≤ w → (n < m → has x n ≡ true) → Begins m n x (lifted n w x fs)
lifted_begins m n w x fs codes there = record {
  codes = λ i below. elim (cases_eq i n) [
    | inl same ↦
        ap (lifted n w x fs) same ∙ lifted-truth n w x fs ∙ sym (there (let within : n < m = omega (arith, same, below) in within)) ∙ ap (has x) (sym same)
    | inr other ↦ lifted-code n w x fs i (omega arith) other
  ];
  truth = lifted-truth n w x fs;
}

-- two assignments that name the same rules are the same there
names_same : (a c : ℕ → Bool) (x : List Bool) (v : ℕ) (fs : List Rule) → Names a x v fs → Names c x v fs → (k : ℕ) → k < length fs → c (v + k) ≡ a (v + k)
names_same a c x v [] ha hc k within = absurd (omega arith)
names_same a c x v (f ∷ fs) ha hc zero within =
    let e : v + 0 ≡ v = omega arith in ap c e ∙ hc.0 ∙ sym ha.0 ∙ sym (ap a e)
names_same a c x v (f ∷ fs) ha hc (suc k) within =
    let e : v + suc k ≡ v + 1 + k = omega arith in ap c e ∙ names_same a c x (v + 1) fs ha.1 hc.1 k (omega arith) ∙ sym (ap a e)

-- and where both begin with one set of n codes, they are the same up to the last of the rules
pub alone_named : (n : ℕ) (x : List Bool) (a c : ℕ → Bool) (fs : List Rule) → Begins n n x a → Begins n n x c → Names a x (n + 1) fs → Names c x (n + 1) fs
    → (v : ℕ) → v < n + 1 + length fs → c v ≡ a v
alone_named n x a c fs ba bc ha hc v within =
    elim (cases_lt v n) [
      | inl below ↦ bc.codes v below ∙ sym (ba.codes v below)
      | inr above ↦ elim (cases_eq v n) [
        | inl e ↦ ap c e ∙ bc.truth ∙ sym ba.truth ∙ sym (ap a e)
        | inr other ↦
            let at : n + 1 + (v - (n + 1)) ≡ v = omega arith in
            let inside : v - (n + 1) < length fs = omega arith in
            sym (ap c at) ∙ names_same a c x (n + 1) fs ha hc (v - (n + 1)) inside ∙ ap a at
      ]
    ]

-- the first clause, that variable n is true
true_alone : (t : Bool) → (t || false) ≡ true → t ≡ true
true_alone true h = refl
true_alone false h = h

pub truth_from_sat : (n : ℕ) (a : ℕ → Bool) → clause_true a (clause_of (literal n true ∷ [])) ≡ true → a n ≡ true
truth_from_sat n a h = true_alone (a n) (ap (λ (t : Bool). t || false) (sym (true_positive a n)) ∙ sym (one_true a (literal n true)) ∙ h)

pub sat_from_truth : (n : ℕ) (a : ℕ → Bool) → a n ≡ true → clause_true a (clause_of (literal n true ∷ [])) ≡ true
sat_from_truth n a h = one_true a (literal n true) ∙ ap (λ (t : Bool). t || false) (true_positive a n ∙ h)

-- what begins with the set and satisfies the clauses, with the truth of the items' rules and of further ones
pub record IsLiftedOver (m n w : ℕ) (is : List Item) (own : List Rule) (x : List Bool) (a : ℕ → Bool) : Type 0 where
  pub begins : Begins m n x a
  pub names : Names a x w (items_named is ++ own)
  pub satisfies : Sat (encoded_items n w is) a

pub lift_items : (m n w : ℕ) (is : List Item) (own : List Rule) (x : List Bool) → m ≤ w → n < w → (n < m → has x n ≡ true) → AllFit m is → AllMeet x is
    → IsLiftedOver m n w is own x (lifted n w x (items_named is ++ own))
lift_items m n w is own x codes truth there fit met =
    let a : ℕ → Bool = lifted n w x (items_named is ++ own) in
    let begins : Begins m n x a = lifted_begins m n w x (items_named is ++ own) codes there in
    let names : Names a x w (items_named is ++ own) = lifted_named n w x (items_named is ++ own) truth in
    record {
      begins = begins;
      names = names;
      satisfies = (sat_from_truth n a begins.truth, sat_from_items n x a begins w is fit (names_first a x w (items_named is) own names) met);
    }

-- what an assignment that satisfies the clauses is over the set that it begins with
pub record IsOver (m n w : ℕ) (is : List Item) (x : List Bool) (a : ℕ → Bool) : Type 0 where
  pub begins : Begins m n x a
  pub names : Names a x w (items_named is)
  pub meets : AllMeet x is

pub items_over : (m n w : ℕ) (is : List Item) (x : List Bool) (a : ℕ → Bool) → AllFit m is → ((i : ℕ) → i < m → a i ≡ has x i) → Sat (encoded_items n w is) a
    → IsOver m n w is x a
items_over m n w is x a fit codes sat =
    let begins : Begins m n x a = record { codes = codes; truth = truth_from_sat n a sat.0 } in
    record {
      begins = begins;
      names = names_from_items n x a begins w is fit sat.1;
      meets = meets_from_items n x a begins w is fit sat.1;
    }

-- the clauses of items over the codes of a book, where just the sets that pass the test meet the items
pub items_code : (n : ℕ) (is : List Item) (test : List Bool → Bool) → AllFit n is → ((x : List Bool) → length x ≡ n → test x ≡ true → AllMeet x is)
    → ((x : List Bool) → length x ≡ n → AllMeet x is → test x ≡ true) → CodesJust n test (encoded_items n (n + 1) is) (n + 1 + variables_of is)
items_code n is test fit meets passes = record {
  lifts = λ x len pass.
      let a : ℕ → Bool = lifted n (n + 1) x (items_named is ++ []) in
      let l : IsLiftedOver n n (n + 1) is [] x a = lift_items n n (n + 1) is [] x (omega arith) (omega arith) (λ (h : n < n). absurd (omega arith)) fit (meets x len pass) in (
        a,
        record {
          begins = λ i below. l.begins.codes i (omega (arith, len));
          satisfies = l.satisfies;
          alone = λ c begins sat v within.
              let o : IsOver n n (n + 1) is x c = items_over n n (n + 1) is x c fit (λ i below. begins i (omega (arith, len))) sat in
              alone_named n x a c (items_named is) l.begins o.begins (names_first a x (n + 1) (items_named is) [] l.names) o.names v (omega (arith, length-items_named is));
        },
      );
  begins_so = λ a x len begins sat.
      passes x len (items_over n n (n + 1) is x a fit (λ i below. begins i (omega (arith, len))) sat).meets;
}
