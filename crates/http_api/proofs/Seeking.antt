-- Where a router goes after the first bytes of a path.
use Rattle.std.proofs.Common.{◌≡◌, ◌≢◌, ℕ, zero, suc, ◌-◌, ◌<◌, List, [], ◌∷◌, ◌++◌, length, Some, None, true, false, cond, refl, ap, arith, ◌==◌}
use Rattle.std.proofs.lemmas.Bool.Decides.{nat_tests}
use Rattle.matchit.specs.Rows.{RowsOf}
use Rattle.matchit.specs.Seek.{step, seek, param_step, has_slash, segment}

-- the bytes of a name or a number: none is a slash
abbrev pub IsPlain : List ℕ → Type 0
IsPlain [] = Unit {0}
IsPlain (b ∷ bs) = (b < 128) × (b ≢ 47) × IsPlain bs

pub segment-plain : (xs t : List ℕ) → IsPlain xs → segment (xs ++ 47 ∷ t) ≡ xs ++ 47 ∷ []
segment-plain [] t h = refl
segment-plain (x ∷ xs) t h =
    let e : (x == 47) ≡ false = grind (arith, nat_tests, h.1) in
    rw e (ap (λ s. x ∷ s) (segment-plain xs t h.2))

pub segment-last : (xs : List ℕ) → IsPlain xs → segment xs ≡ xs
segment-last [] h = refl
segment-last (x ∷ xs) h =
    let e : (x == 47) ≡ false = grind (arith, nat_tests, h.1) in
    rw e (ap (λ s. x ∷ s) (segment-last xs h.2))

pub no_slash : (xs : List ℕ) → IsPlain xs → has_slash xs ≡ false
no_slash [] h = refl
no_slash (x ∷ xs) h =
    let e : (x == 47) ≡ false = grind (arith, nat_tests, h.1) in
    rw e (no_slash xs h.2)

module _ {K : Type 0} where
  -- rows behind a parameter
  abbrev pub behind : RowsOf K → RowsOf K
  behind [] = []
  behind ((t, k) ∷ r) = (256 ∷ t, k) ∷ behind r

  pub step-other : (b : ℕ) (r : RowsOf K) → b ≢ 256 → step b (behind r) ≡ []
  step-other b [] n = refl
  step-other b ((t, k) ∷ r) n =
      let e : (256 == b) ≡ false = grind (arith, nat_tests) in
      rw e (step-other b r n)

  pub step-param : (r : RowsOf K) → step 256 (behind r) ≡ r
  step-param [] = refl
  step-param ((t, k) ∷ r) = ap (λ s. (t, k) ∷ s) (step-param r)

  none_left : (p : List ℕ) → (param_step {K = K} [] p).1 ≡ []
  unfolding param_step
  none_left p =
      elim (has_slash p) as (λ v. (cond {A = ℕ × RowsOf K} v (0, []) (length p, [])).1 ≡ []) [
        | true ↦ refl
        | false ↦ refl
      ]

  pub seek-none : (k : ℕ) (p : List ℕ) → seek {K = K} k [] p ≡ None
  unfolding seek
  seek-none k [] = refl
  seek-none (suc k) (b ∷ p) = seek-none k p
  seek-none zero (b ∷ p) = simp (seek-none 0 p, none_left (b ∷ p), seek-none (((param_step {K = K} [] (b ∷ p)).0) - 1) p)

  pub seek-skip : (skip : ℕ) (r : RowsOf K) (xs ys : List ℕ) → skip ≡ length xs → seek skip r (xs ++ ys) ≡ seek 0 r ys
  unfolding seek
  seek-skip zero r [] ys e = refl
  seek-skip (suc k) r [] ys e = absurd (omega arith)
  seek-skip zero r (x ∷ xs) ys e = absurd (omega arith)
  seek-skip (suc k) r (x ∷ xs) ys e = seek-skip k r xs ys (omega arith)

  -- a byte that some rows begin with
  pub next_byte : (b : ℕ) (r : RowsOf K) (p : List ℕ) (k : K) → seek 0 (step b r) p ≡ Some k → seek 0 r (b ∷ p) ≡ Some k
  unfolding seek
  next_byte b r p k e = rw e refl

  -- a row that begins with another byte than the path is passed over
  pub other_byte : (a : ℕ) (t : List ℕ) (kept : K) (r : RowsOf K) (b : ℕ) (p : List ℕ) → b < a → a < 256 → seek 0 ((a ∷ t, kept) ∷ r) (b ∷ p) ≡ seek 0 r (b ∷ p)
  unfolding seek
  other_byte a t kept r b p less few =
      let this : (a == b) ≡ false = grind (arith, nat_tests) in
      let item : (a == 256) ≡ false = grind (arith, nat_tests) in
      let rest : (a == 257) ≡ false = grind (arith, nat_tests) in
      rw (this, item, rest) refl
