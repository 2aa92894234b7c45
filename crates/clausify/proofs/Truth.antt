-- Lists of clauses that are satisfied, and clauses that tie a variable to two literals.
use Rattle.std.proofs.Common.{◌≡◌, ℕ, ◌+◌, ◌*◌, Bool, true, false, not, ◌&&◌, ◌||◌, [], ◌∷◌, refl, sym, ap, ◌∙◌, arith}
use Rattle.clause_pool.specs.Literal.{literal, complement, is_true}
use Rattle.clause_pool.specs.Clause.{clause_of, clause_true, Sat}
use Rattle.clause_pool.proofs.LiteralLaws.{is_true-positive, is_true-negative, is_true-complement}
use Rattle.clause_pool.proofs.ClauseLaws.{clause_true-clause_of}
use Rattle.clausify.specs.Formulas.{both_clauses, either_clauses}

-- a variable's literals
pub true_positive : (a : ℕ → Bool) (v : ℕ) → is_true a (literal v true) ≡ a v
true_positive a v = ap (is_true a) (let e : 2 * v + 0 ≡ 2 * v = omega arith in e) ∙ is_true-positive a v

pub true_negative : (a : ℕ → Bool) (v : ℕ) → is_true a (literal v false) ≡ not (a v)
true_negative a v = is_true-negative a v

-- the truth of clauses of one, two and three literals
pub one_true : (a : ℕ → Bool) (k : ℕ) → clause_true a (clause_of (k ∷ [])) ≡ (is_true a k || false)
one_true a k = clause_true-clause_of a (k ∷ [])

pub two_true : (a : ℕ → Bool) (k l : ℕ) (p q : Bool) → is_true a k ≡ p → is_true a l ≡ q → clause_true a (clause_of (k ∷ l ∷ [])) ≡ (p || (q || false))
two_true a k l p q hk hl = clause_true-clause_of a (k ∷ l ∷ []) ∙ ap (λ (b : Bool). b || (is_true a l || false)) hk ∙ ap (λ (b : Bool). p || (b || false)) hl

pub three_true : (a : ℕ → Bool) (k l m : ℕ) (p q r : Bool) → is_true a k ≡ p → is_true a l ≡ q → is_true a m ≡ r → clause_true a (clause_of (k ∷ l ∷ m ∷ [])) ≡ (p || (q || (r || false)))
three_true a k l m p q r hk hl hm =
    clause_true-clause_of a (k ∷ l ∷ m ∷ []) ∙ ap (λ (b : Bool). b || (is_true a l || (is_true a m || false))) hk
    ∙ ap (λ (b : Bool). p || (b || (is_true a m || false))) hl ∙ ap (λ (b : Bool). p || (q || (b || false))) hm

and_table : (v p q : Bool) → (not v || (p || false)) ≡ true → (not v || (q || false)) ≡ true → (v || (not p || (not q || false))) ≡ true → v ≡ (p && q)
and_table true true true h i j = refl
and_table true true false h i j = sym i
and_table true false q h i j = sym h
and_table false true true h i j = j
and_table false true false h i j = refl
and_table false false q h i j = refl

or_table : (v p q : Bool) → (not v || (p || (q || false))) ≡ true → (v || (not p || false)) ≡ true → (v || (not q || false)) ≡ true → v ≡ (p || q)
or_table true true q h i j = refl
or_table true false true h i j = refl
or_table true false false h i j = sym h
or_table false true q h i j = i
or_table false false true h i j = j
or_table false false false h i j = refl

and_first : (p q : Bool) → (not (p && q) || (p || false)) ≡ true
and_first true true = refl
and_first true false = refl
and_first false q = refl

and_second : (p q : Bool) → (not (p && q) || (q || false)) ≡ true
and_second true true = refl
and_second true false = refl
and_second false q = refl

and_third : (p q : Bool) → ((p && q) || (not p || (not q || false))) ≡ true
and_third true true = refl
and_third true false = refl
and_third false q = refl

or_first : (p q : Bool) → (not (p || q) || (p || (q || false))) ≡ true
or_first true q = refl
or_first false true = refl
or_first false false = refl

or_second : (p q : Bool) → ((p || q) || (not p || false)) ≡ true
or_second true q = refl
or_second false true = refl
or_second false false = refl

or_third : (p q : Bool) → ((p || q) || (not q || false)) ≡ true
or_third true q = refl
or_third false true = refl
or_third false false = refl

-- the clauses of `both` hold just where the variable is the truth of both literals
pub both_from_sat : (a : ℕ → Bool) (v k l : ℕ) (p q : Bool) → is_true a k ≡ p → is_true a l ≡ q → Sat (both_clauses v k l) a → a v ≡ (p && q)
both_from_sat a v k l p q hk hl h =
    and_table (a v) p q
    (sym (two_true a (literal v false) k (not (a v)) p (true_negative a v) hk) ∙ h.0)
    (sym (two_true a (literal v false) l (not (a v)) q (true_negative a v) hl) ∙ h.1.0)
    (sym (three_true a (literal v true) (complement k) (complement l) (a v) (not p) (not q) (true_positive a v) (is_true-complement a k ∙ ap not hk) (is_true-complement a l ∙ ap not hl)) ∙ h.1.1.0)

pub sat_from_both : (a : ℕ → Bool) (v k l : ℕ) (p q : Bool) → is_true a k ≡ p → is_true a l ≡ q → a v ≡ (p && q) → Sat (both_clauses v k l) a
sat_from_both a v k l p q hk hl h = (
  two_true a (literal v false) k (not (p && q)) p (true_negative a v ∙ ap not h) hk ∙ and_first p q,
  (
    two_true a (literal v false) l (not (p && q)) q (true_negative a v ∙ ap not h) hl ∙ and_second p q,
    (
      three_true a (literal v true) (complement k) (complement l) (p && q) (not p) (not q) (true_positive a v ∙ h) (is_true-complement a k ∙ ap not hk) (is_true-complement a l ∙ ap not hl) ∙ and_third p q,
      tt,
    ),
  ),
)

-- the same of `either`
pub either_from_sat : (a : ℕ → Bool) (v k l : ℕ) (p q : Bool) → is_true a k ≡ p → is_true a l ≡ q → Sat (either_clauses v k l) a → a v ≡ (p || q)
either_from_sat a v k l p q hk hl h =
    or_table (a v) p q
    (sym (three_true a (literal v false) k l (not (a v)) p q (true_negative a v) hk hl) ∙ h.0)
    (sym (two_true a (literal v true) (complement k) (a v) (not p) (true_positive a v) (is_true-complement a k ∙ ap not hk)) ∙ h.1.0)
    (sym (two_true a (literal v true) (complement l) (a v) (not q) (true_positive a v) (is_true-complement a l ∙ ap not hl)) ∙ h.1.1.0)

pub sat_from_either : (a : ℕ → Bool) (v k l : ℕ) (p q : Bool) → is_true a k ≡ p → is_true a l ≡ q → a v ≡ (p || q) → Sat (either_clauses v k l) a
sat_from_either a v k l p q hk hl h = (
  three_true a (literal v false) k l (not (p || q)) p q (true_negative a v ∙ ap not h) hk hl ∙ or_first p q,
  (
    two_true a (literal v true) (complement k) (p || q) (not p) (true_positive a v ∙ h) (is_true-complement a k ∙ ap not hk) ∙ or_second p q,
    (
      two_true a (literal v true) (complement l) (p || q) (not q) (true_positive a v ∙ h) (is_true-complement a l ∙ ap not hl) ∙ or_third p q,
      tt,
    ),
  ),
)
