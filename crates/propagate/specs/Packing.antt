-- A flag kept as the lowest bit of a number.
use Rattle.std.specs.Prelude.{◌≡◌, ℕ, ◌+◌, ◌*◌, ◌/◌, ◌%◌, ◌==◌, if◌then◌else◌}
use Rattle.std.proofs.Common.{◌<◌, ◌∙◌, ap, arith, inl, inr}
use Rattle.std.proofs.lemmas.Bool.{eq-eqb, ne_eqb, cases_eq}

-- the number is that of its half and its flag
pub place_back : (n : ℕ) → 2 * (n / 2) + (if n % 2 == 1 then 1 else 0) ≡ n
place_back n =
    elim (cases_eq (n % 2) 1) [
      | inl h ↦ ap (λ b. 2 * (n / 2) + (if b then 1 else 0)) (eq-eqb (n % 2) 1 h) ∙ omega arith
      | inr h ↦ let below : n % 2 < 2 = omega arith in
          ap (λ b. 2 * (n / 2) + (if b then 1 else 0)) (ne_eqb (n % 2) 1 h) ∙ omega arith
    ]
