-- The clauses of a formula hold just where each of its variables is the truth of what it stands for, and its literal is
-- then the truth of the formula.
use Rattle.std.proofs.Common.{◌≡◌, ℕ, ◌+◌, ◌<◌, Bool, true, not, List, [], ◌∷◌, ◌++◌, length, refl, sym, ap, subst, ◌∙◌, arith, length-append}
use Rattle.std.proofs.lemmas.Bool.{and_parts, ltb-true}
use Rattle.pb_base.specs.Rule.{Rule, code, negation, both, either, always, never, holds, codes_below}
use Rattle.pb_base.specs.Sets.{has}
use Rattle.clause_pool.specs.Literal.{is_true}
use Rattle.clause_pool.specs.Clause.{Sat}
use Rattle.clause_pool.proofs.LiteralLaws.{is_true-complement}
use Rattle.clausify.specs.Formulas.{connectives, formula_literal, formula_clauses}
use Rattle.clausify.proofs.ListLaws.{all-append, all_first, all_last}
use Rattle.clausify.proofs.Truth.{true_positive, true_negative, both_from_sat, sat_from_both, either_from_sat, sat_from_either}

-- the parts of a formula that take a variable, in the order in which they take it
abbrev pub named_in : Rule → List Rule
named_in (code place) = []
named_in (negation f) = named_in f
named_in (both f g) = named_in f ++ named_in g ++ both f g ∷ []
named_in (either f g) = named_in f ++ named_in g ++ either f g ∷ []
named_in always = []
named_in never = []

-- the variables from v on are the truth of these rules
abbrev pub Names : (ℕ → Bool) → List Bool → ℕ → List Rule → Type 0
Names a x v [] = Unit {0}
Names a x v (f ∷ fs) = (a v ≡ holds f x) × Names a x (v + 1) fs

-- the variables below m are the set, those of its codes, and variable n is true
pub record Begins (m n : ℕ) (x : List Bool) (a : ℕ → Bool) : Type 0 where
  pub codes : (i : ℕ) → i < m → a i ≡ has x i
  pub truth : a n ≡ true

pub length-named_in : (f : Rule) → length (named_in f) ≡ connectives f
length-named_in (code place) = refl
length-named_in (negation f) = length-named_in f
length-named_in (both f g) =
    length-append (named_in f ++ named_in g) (both f g ∷ [])
    ∙ omega (arith, length-append (named_in f) (named_in g), length-named_in f, length-named_in g)
length-named_in (either f g) =
    length-append (named_in f ++ named_in g) (either f g ∷ [])
    ∙ omega (arith, length-append (named_in f) (named_in g), length-named_in f, length-named_in g)
length-named_in always = refl
length-named_in never = refl

pub names-append : (a : ℕ → Bool) (x : List Bool) (v : ℕ) (fs gs : List Rule) → Names a x v fs → Names a x (v + length fs) gs → Names a x v (fs ++ gs)
names-append a x v [] gs h k = subst (λ (w : ℕ). Names a x w gs) (let e : v + 0 ≡ v = omega arith in e) k
names-append a x v (f ∷ fs) gs h k =
    (h.0, names-append a x (v + 1) fs gs h.1 (subst (λ (w : ℕ). Names a x w gs) (let e : v + length (f ∷ fs) ≡ v + 1 + length fs = omega arith in e) k))

pub names_first : (a : ℕ → Bool) (x : List Bool) (v : ℕ) (fs gs : List Rule) → Names a x v (fs ++ gs) → Names a x v fs
names_first a x v [] gs h = tt
names_first a x v (f ∷ fs) gs h = (h.0, names_first a x (v + 1) fs gs h.1)

pub names_last : (a : ℕ → Bool) (x : List Bool) (v : ℕ) (fs gs : List Rule) → Names a x v (fs ++ gs) → Names a x (v + length fs) gs
names_last a x v [] gs h = subst (λ (w : ℕ). Names a x w gs) (let e : v ≡ v + 0 = omega arith in e) h
names_last a x v (f ∷ fs) gs h =
    subst (λ (w : ℕ). Names a x w gs) (let e : v + 1 + length fs ≡ v + length (f ∷ fs) = omega arith in e) (names_last a x (v + 1) fs gs h.1)

-- the names of two formulas and of what joins them
pub record NamesOfJoin (a : ℕ → Bool) (x : List Bool) (v : ℕ) (f g j : Rule) : Type 0 where
  pub left : Names a x v (named_in f)
  pub right : Names a x (v + connectives f) (named_in g)
  pub joined : a (v + connectives f + connectives g) ≡ holds j x

join_parts : (a : ℕ → Bool) (x : List Bool) (v : ℕ) (f g j : Rule) → Names a x v (named_in f ++ named_in g ++ j ∷ []) → NamesOfJoin a x v f g j
join_parts a x v f g j h =
    let sides : Names a x v (named_in f ++ named_in g) = names_first a x v (named_in f ++ named_in g) (j ∷ []) h in
    let last = names_last a x v (named_in f ++ named_in g) (j ∷ []) h in
    let right = names_last a x v (named_in f) (named_in g) sides in
    record {
      left = names_first a x v (named_in f) (named_in g) sides;
      right = subst (λ (n : ℕ). Names a x (v + n) (named_in g)) (length-named_in f) right;
      joined = ap a (let e : v + connectives f + connectives g ≡ v + length (named_in f ++ named_in g) = omega (arith, length-append (named_in f) (named_in g), length-named_in f, length-named_in g) in e) ∙ last.0;
    }

join_names : (a : ℕ → Bool) (x : List Bool) (v : ℕ) (f g j : Rule) → NamesOfJoin a x v f g j → Names a x v (named_in f ++ named_in g ++ j ∷ [])
join_names a x v f g j h =
    names-append a x v (named_in f ++ named_in g) (j ∷ [])
    (names-append a x v (named_in f) (named_in g) h.left (subst (λ (n : ℕ). Names a x (v + n) (named_in g)) (sym (length-named_in f)) h.right))
    (ap a (let e : v + length (named_in f ++ named_in g) ≡ v + connectives f + connectives g = omega (arith, length-append (named_in f) (named_in g), length-named_in f, length-named_in g) in e) ∙ h.joined, tt)

-- the literal of a formula is then its truth
pub denotes : {m : ℕ} (n : ℕ) (x : List Bool) (a : ℕ → Bool) → Begins m n x a → (v : ℕ) (f : Rule) → codes_below m f ≡ true → Names a x v (named_in f) → is_true a (formula_literal n v f) ≡ holds f x
denotes {m} n x a b v (code place) fit h = true_positive a place ∙ b.codes place (ltb-true place m fit)
denotes {m} n x a b v (negation f) fit h = is_true-complement a (formula_literal n v f) ∙ ap not (denotes n x a b v f fit h)
denotes {m} n x a b v (both f g) fit h = true_positive a (v + connectives f + connectives g) ∙ (join_parts a x v f g (both f g) h).joined
denotes {m} n x a b v (either f g) fit h = true_positive a (v + connectives f + connectives g) ∙ (join_parts a x v f g (either f g) h).joined
denotes {m} n x a b v always fit h = true_positive a n ∙ b.truth
denotes {m} n x a b v never fit h = true_negative a n ∙ ap not b.truth

-- where the variables are the truth of what they stand for, the clauses hold
pub sat_from_names : {m : ℕ} (n : ℕ) (x : List Bool) (a : ℕ → Bool) → Begins m n x a → (v : ℕ) (f : Rule) → codes_below m f ≡ true → Names a x v (named_in f) → Sat (formula_clauses n v f) a
sat_from_names {m} n x a b v (code place) fit h = tt
sat_from_names {m} n x a b v (negation f) fit h = sat_from_names n x a b v f fit h
sat_from_names {m} n x a b v (both f g) fit h =
    let fits = and_parts (codes_below m f) (codes_below m g) fit in
    let parts = join_parts a x v f g (both f g) h in
    all-append _ (formula_clauses n v f ++ formula_clauses n (v + connectives f) g) _
    (all-append _ (formula_clauses n v f) _ (sat_from_names n x a b v f fits.0 parts.left) (sat_from_names n x a b (v + connectives f) g fits.1 parts.right))
    (sat_from_both a (v + connectives f + connectives g) (formula_literal n v f) (formula_literal n (v + connectives f) g) (holds f x) (holds g x)
    (denotes n x a b v f fits.0 parts.left) (denotes n x a b (v + connectives f) g fits.1 parts.right) parts.joined)
sat_from_names {m} n x a b v (either f g) fit h =
    let fits = and_parts (codes_below m f) (codes_below m g) fit in
    let parts = join_parts a x v f g (either f g) h in
    all-append _ (formula_clauses n v f ++ formula_clauses n (v + connectives f) g) _
    (all-append _ (formula_clauses n v f) _ (sat_from_names n x a b v f fits.0 parts.left) (sat_from_names n x a b (v + connectives f) g fits.1 parts.right))
    (sat_from_either a (v + connectives f + connectives g) (formula_literal n v f) (formula_literal n (v + connectives f) g) (holds f x) (holds g x)
    (denotes n x a b v f fits.0 parts.left) (denotes n x a b (v + connectives f) g fits.1 parts.right) parts.joined)
sat_from_names {m} n x a b v always fit h = tt
sat_from_names {m} n x a b v never fit h = tt

-- where the clauses hold, the variables are the truth of what they stand for
pub names_from_sat : {m : ℕ} (n : ℕ) (x : List Bool) (a : ℕ → Bool) → Begins m n x a → (v : ℕ) (f : Rule) → codes_below m f ≡ true → Sat (formula_clauses n v f) a → Names a x v (named_in f)
names_from_sat {m} n x a b v (code place) fit h = tt
names_from_sat {m} n x a b v (negation f) fit h = names_from_sat n x a b v f fit h
names_from_sat {m} n x a b v (both f g) fit h =
    let fits = and_parts (codes_below m f) (codes_below m g) fit in
    let sides = all_first _ (formula_clauses n v f ++ formula_clauses n (v + connectives f) g) _ h in
    let left = names_from_sat n x a b v f fits.0 (all_first _ (formula_clauses n v f) _ sides) in
    let right = names_from_sat n x a b (v + connectives f) g fits.1 (all_last _ (formula_clauses n v f) _ sides) in
    join_names a x v f g (both f g) (record {
      left = left;
      right = right;
      joined = both_from_sat a (v + connectives f + connectives g) (formula_literal n v f) (formula_literal n (v + connectives f) g) (holds f x) (holds g x)
          (denotes n x a b v f fits.0 left) (denotes n x a b (v + connectives f) g fits.1 right)
          (all_last _ (formula_clauses n v f ++ formula_clauses n (v + connectives f) g) _ h);
    })
names_from_sat {m} n x a b v (either f g) fit h =
    let fits = and_parts (codes_below m f) (codes_below m g) fit in
    let sides = all_first _ (formula_clauses n v f ++ formula_clauses n (v + connectives f) g) _ h in
    let left = names_from_sat n x a b v f fits.0 (all_first _ (formula_clauses n v f) _ sides) in
    let right = names_from_sat n x a b (v + connectives f) g fits.1 (all_last _ (formula_clauses n v f) _ sides) in
    join_names a x v f g (either f g) (record {
      left = left;
      right = right;
      joined = either_from_sat a (v + connectives f + connectives g) (formula_literal n v f) (formula_literal n (v + connectives f) g) (holds f x) (holds g x)
          (denotes n x a b v f fits.0 left) (denotes n x a b (v + connectives f) g fits.1 right)
          (all_last _ (formula_clauses n v f ++ formula_clauses n (v + connectives f) g) _ h);
    })
names_from_sat {m} n x a b v always fit h = tt
names_from_sat {m} n x a b v never fit h = tt
