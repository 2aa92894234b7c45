-- What a router finds behind a parameter.
use Rattle.std.proofs.Common.{◌≡◌, ◌≢◌, ℕ, suc, ◌-◌, List, [], ◌∷◌, ◌++◌, length, Some, Bool, true, false, nat_eq, ltb, refl, sym, ap, ◌∙◌, arith, ◌&&◌, length-append, append-nil}
use Rattle.std.proofs.lemmas.Bool.Decides.{nat_tests}
use Rattle.std.specs.List.{ends_with}
use Rattle.matchit.specs.Rows.{RowsOf}
use Rattle.matchit.specs.Seek.{own, seek, param_step, has_slash, segment, cuts, longest_suffix, with_suffix}
use Rattle.http_api.proofs.Seeking.{IsPlain, segment-plain, segment-last, no_slash, behind, step-other, step-param, seek-none, seek-skip}

module _ {K : Type 0} where
  takes_name : (path seg : List ℕ) (r : RowsOf K) → segment path ≡ seg → longest_suffix seg r ≡ 47 ∷ [] → param_step r path ≡ (length seg - 1, with_suffix (47 ∷ []) r)
  unfolding param_step
  takes_name path seg r is longest = rw (is, longest) refl

  takes_all : (path : List ℕ) (r : RowsOf K) → segment path ≡ path → longest_suffix path r ≡ [] → has_slash path ≡ false → param_step r path ≡ (length path, r)
  unfolding param_step
  takes_all path r is longest none = rw (is, longest, none) refl

  -- where the rows behind a parameter are sought
  by_param : (b : ℕ) (path : List ℕ) (r rest : RowsOf K) (taken : ℕ) (k : K) → b ≢ 256 → param_step r (b ∷ path) ≡ (taken, rest) → seek (taken - 1) rest path ≡ Some k → seek 0 (behind r) (b ∷ path) ≡ Some k
  unfolding seek
  by_param b path r rest taken k other takes found = rw (step-other b r other, seek-none 0 path, step-param r, takes, found) refl

  -- the rows that go on with a slash are reached behind the name
  pub behind_name : (b : ℕ) (name u : List ℕ) (r : RowsOf K) (k : K) → IsPlain (b ∷ name)
      → longest_suffix (b ∷ name ++ 47 ∷ []) r ≡ 47 ∷ []
      → seek 0 (with_suffix (47 ∷ []) r) (47 ∷ u) ≡ Some k
      → seek 0 (behind r) (b ∷ name ++ 47 ∷ u) ≡ Some k
  behind_name b name u r k plain longest found =
      let seg : segment (b ∷ name ++ 47 ∷ u) ≡ b ∷ name ++ 47 ∷ [] = segment-plain (b ∷ name) u plain in
      let taken : ℕ = length (b ∷ name ++ 47 ∷ []) - 1 in
      let n : taken - 1 ≡ length name = grind (arith, length-append) in
      by_param b (name ++ 47 ∷ u) r (with_suffix (47 ∷ []) r) taken k (λ e. omega (arith, plain.0)) (takes_name _ _ r seg longest) (seek-skip (taken - 1) (with_suffix (47 ∷ []) r) name (47 ∷ u) n ∙ found)

  -- the row that ends is reached where nothing is behind the name
  pub at_name : (b : ℕ) (name : List ℕ) (r : RowsOf K) (k : K) → IsPlain (b ∷ name) → longest_suffix (b ∷ name) r ≡ [] → own r ≡ Some k → seek 0 (behind r) (b ∷ name) ≡ Some k
  unfolding seek
  at_name b name r k plain longest found =
      let n : length (b ∷ name) - 1 ≡ length name = omega arith in
      by_param b name r r (length (b ∷ name)) k (λ e. omega (arith, plain.0)) (takes_all (b ∷ name) r (segment-last (b ∷ name) plain) longest (no_slash (b ∷ name) plain)) (ap (seek (length (b ∷ name) - 1) r) (sym (append-nil name)) ∙ seek-skip (length (b ∷ name) - 1) r name [] n ∙ found)

-- a name and a slash end with a slash, and a name doesn't
ends-slash : (xs : List ℕ) → ends_with nat_eq (xs ++ 47 ∷ []) (47 ∷ []) ≡ true
ends-slash [] = refl
ends-slash (x ∷ []) = refl
ends-slash (x ∷ y ∷ xs) =
    let n : length (x ∷ y ∷ xs ++ 47 ∷ []) - 1 ≡ suc (length (y ∷ xs ++ 47 ∷ []) - 1) = omega arith in
    rw n (ends-slash (y ∷ xs))

ends-plain : (xs : List ℕ) → IsPlain xs → ends_with nat_eq xs (47 ∷ []) ≡ false
ends-plain [] plain = refl
ends-plain (x ∷ []) plain =
    let e : nat_eq 47 x ≡ false = grind (arith, nat_tests, plain.1) in
    rw e refl
ends-plain (x ∷ y ∷ xs) plain =
    let n : length (x ∷ y ∷ xs) - 1 ≡ suc (length (y ∷ xs) - 1) = omega arith in
    rw n (ends-plain (y ∷ xs) plain.2)

pub cuts-slash : (b : ℕ) (name : List ℕ) → cuts (b ∷ name ++ 47 ∷ []) (47 ∷ []) ≡ true
cuts-slash b name =
    let longer : ltb 1 (length (b ∷ name ++ 47 ∷ [])) ≡ true = grind (arith, nat_tests, length-append) in
    rw (longer, ends-slash (b ∷ name)) refl

pub cuts-plain : (b : ℕ) (name : List ℕ) → IsPlain (b ∷ name) → cuts (b ∷ name) (47 ∷ []) ≡ false
cuts-plain b name plain = rw (ends-plain (b ∷ name) plain) (by (ltb 1 (length (b ∷ name))))
  where
    by : (v : Bool) → (v && false) ≡ false
    by true = refl
    by false = refl
