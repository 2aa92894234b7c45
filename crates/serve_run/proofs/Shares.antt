-- Equal shares of a number of steps.
use native.Mathlib.Nat as nat
use Rattle.std.proofs.Common.{◌≡◌, ◌∙◌, ℕ, ◌+◌, ◌*◌, ◌/◌, ◌<◌, ◌≤◌, List, [], ◌∷◌, ◌++◌, length, ap, subst, length-append, arith}

pub share_more : (share n : ℕ) → share * (n + 1) ≡ share * n + share
share_more share n = omega arith

-- equal shares of the workers are no more than the whole
pub shares_fit : (steps workers : ℕ) → 0 < workers → (steps / workers) * workers ≤ steps
shares_fit steps workers some = (nat.le-div_iff_mul-le some).0 (omega arith)

-- the shares of a list with one more at its end
pub share_push : {A : Type 0} (share : ℕ) (xs : List A) (x : A) → share * length (xs ++ x ∷ []) ≡ share * length xs + share
share_push share xs x =
    let long : length (xs ++ x ∷ []) ≡ length xs + 1 = omega (arith, length-append xs (x ∷ [])) in
    ap (λ (n : ℕ). share * n) long ∙ share_more share (length xs)

-- what is left of the first of these shares is enough for the others
pub share_taken : {A : Type 0} (share left kept : ℕ) (x : A) (all rest : List A) → all ≡ x ∷ rest → share * length all ≤ left → kept + share ≡ left
    → share * length rest ≤ kept
share_taken share left kept x all rest is enough cut =
    let long : length all ≡ length rest + 1 = omega (arith, ap length is) in
    let more : share * length all ≡ share * length rest + share = ap (λ (n : ℕ). share * n) long ∙ share_more share (length rest) in
    omega arith
