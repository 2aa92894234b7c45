-- What holds of a literal and its complement.
use Rattle.std.proofs.Common.{◌≡◌, ◌≢◌, ℕ, ◌+◌, ◌-◌, ◌*◌, ◌/◌, ◌%◌, ◌<◌, Bool, true, false, not, eqb, refl, sym, ap, ◌∙◌, arith, ◌⊎◌, inl, inr}
use Rattle.std.proofs.lemmas.Bool.{eq-eqb, ne_eqb, cases_eq, cond-true, cond-false}
use Rattle.clause_pool.specs.Literal.{literal, complement, is_true}

-- a code is even or odd
pub even_or_odd : (l : ℕ) → (l % 2 ≡ 0) ⊎ (l % 2 ≡ 1)
even_or_odd l =
    elim (cases_eq (l % 2) 0) [ inl h ↦ inl h | inr h ↦ let below : l % 2 < 2 = omega arith in inr (omega arith) ]

is_odd : (l : ℕ) → l % 2 ≡ 1 → l % 2 ≡ 0 → ⊥
is_odd l h e = omega arith

pub complement-even : (l : ℕ) → l % 2 ≡ 0 → complement l ≡ l + 1
complement-even l h = cond-true _ _ _ (eq-eqb _ _ h)

pub complement-odd : (l : ℕ) → l % 2 ≡ 1 → complement l ≡ l - 1
complement-odd l h = cond-false _ _ _ (ne_eqb (l % 2) 0 (is_odd l h))

pub is_true-even : (a : ℕ → Bool) (l : ℕ) → l % 2 ≡ 0 → is_true a l ≡ a (l / 2)
is_true-even a l h = cond-true _ _ _ (eq-eqb _ _ h)

pub is_true-odd : (a : ℕ → Bool) (l : ℕ) → l % 2 ≡ 1 → is_true a l ≡ not (a (l / 2))
is_true-odd a l h = cond-false _ _ _ (ne_eqb (l % 2) 0 (is_odd l h))

pub complement-positive : (v : ℕ) → complement (2 * v) ≡ 2 * v + 1
complement-positive v = complement-even (2 * v) (omega arith)

pub complement-negative : (v : ℕ) → complement (2 * v + 1) ≡ 2 * v
complement-negative v = complement-odd (2 * v + 1) (omega arith) ∙ omega arith

pub is_true-positive : (a : ℕ → Bool) (v : ℕ) → is_true a (2 * v) ≡ a v
is_true-positive a v = is_true-even a (2 * v) (omega arith) ∙ ap a (omega arith)

pub is_true-negative : (a : ℕ → Bool) (v : ℕ) → is_true a (2 * v + 1) ≡ not (a v)
is_true-negative a v = is_true-odd a (2 * v + 1) (omega arith) ∙ ap (λ n. not (a n)) (omega arith)

-- a literal and its complement are of one variable
pub complement-half : (l : ℕ) → complement l / 2 ≡ l / 2
complement-half l =
    elim (even_or_odd l) [
      | inl h ↦ ap (λ n. n / 2) (complement-even l h) ∙ omega arith
      | inr h ↦ ap (λ n. n / 2) (complement-odd l h) ∙ omega arith
    ]

pub complement-complement : (l : ℕ) → complement (complement l) ≡ l
complement-complement l =
    elim (even_or_odd l) [
      | inl h ↦ ap complement (complement-even l h) ∙ complement-odd (l + 1) (omega arith) ∙ omega arith
      | inr h ↦ ap complement (complement-odd l h) ∙ complement-even (l - 1) (omega arith) ∙ omega arith
    ]

pub complement-other : (l : ℕ) → complement l ≢ l
complement-other l =
    elim (even_or_odd l) [
      | inl h ↦ λ e. absurd (omega (arith, complement-even l h))
      | inr h ↦ λ e. absurd (omega (arith, complement-odd l h))
    ]

not-not : (b : Bool) → not (not b) ≡ b
not-not true = refl
not-not false = refl

-- just one of a literal and its complement is true
pub is_true-complement : (a : ℕ → Bool) (l : ℕ) → is_true a (complement l) ≡ not (is_true a l)
is_true-complement a l =
    elim (even_or_odd l) [
      | inl h ↦
          ap (is_true a) (complement-even l h) ∙ is_true-odd a (l + 1) (omega arith)
          ∙ ap (λ n. not (a n)) (let e : (l + 1) / 2 ≡ l / 2 = omega arith in e) ∙ ap not (sym (is_true-even a l h))
      | inr h ↦
          ap (is_true a) (complement-odd l h) ∙ is_true-even a (l - 1) (omega arith)
          ∙ ap a (let e : (l - 1) / 2 ≡ l / 2 = omega arith in e) ∙ sym (not-not (a (l / 2)))
          ∙ ap not (sym (is_true-odd a l h))
    ]

-- a code below twice the number of variables stays so
pub complement-below : (l vars : ℕ) → l < 2 * vars → complement l < 2 * vars
complement-below l vars h =
    elim (even_or_odd l) [
      | inl e ↦ omega (arith, complement-even l e)
      | inr e ↦ omega (arith, complement-odd l e)
    ]

-- a literal is that of its variable and its sign
pub literal-of_parts : (l : ℕ) → literal (l / 2) (eqb (l % 2) 0) ≡ l
literal-of_parts l =
    elim (even_or_odd l) [
      | inl h ↦ ap (literal (l / 2)) (eq-eqb (l % 2) 0 h) ∙ omega arith
      | inr h ↦ ap (literal (l / 2)) (ne_eqb (l % 2) 0 (is_odd l h)) ∙ omega arith
    ]

-- one of a literal and its complement is true
pub is_true-other : (a : ℕ → Bool) (l : ℕ) → is_true a (complement l) ≡ false → is_true a l ≡ true
is_true-other a l h = go (is_true a l) (sym (is_true-complement a l) ∙ h) where
  go : (b : Bool) → not b ≡ false → b ≡ true
  go true e = refl
  go false e = sym e
