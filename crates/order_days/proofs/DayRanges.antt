-- Slices that part a term follow each other, day after day.
use Rattle.std.proofs.Common.{◌≡◌, ℕ, zero, suc, ◌+◌, ◌-◌, ◌≤◌, List, [], ◌∷◌, ◌++◌, length, sym, ap, ◌∙◌, arith, length-append}
use Rattle.std.specs.List.{flat_map, range_with_len, AllByRecursion}
use Rattle.std.proofs.lemmas.List.FromFn.{length-range_with_len}
use Rattle.book_model.specs.Slices.{days_in, IsOrdered}
use Rattle.book_model.specs.declared.record.Slice.{Slice}

-- the first begins on a day, each other on the day after the one before, and none ends after the last day
abbrev pub Follow : ℕ → ℕ → List Slice → Type 0
Follow from last [] = Unit {0}
Follow from last (s ∷ ss) = (s.first ≡ from) × (s.first ≤ s.last) × (s.last ≤ last) × Follow (suc s.last) last ss

pub range_with_len-append : (a k n : ℕ) → range_with_len a k ++ range_with_len (a + k) n ≡ range_with_len a (k + n)
range_with_len-append a zero n =
    let at : a + zero ≡ a = omega arith in
    let count : zero + n ≡ n = omega arith in
    ap (λ m. range_with_len m n) at ∙ sym (ap (range_with_len a) count)
range_with_len-append a (suc k) n =
    let at : a + suc k ≡ a + 1 + k = omega arith in
    let count : suc k + n ≡ suc (k + n) = omega arith in
    ap (λ m. a ∷ (range_with_len (a + 1) k ++ range_with_len m n)) at
    ∙ ap (λ days. a ∷ days) (range_with_len-append (a + 1) k n)
    ∙ sym (ap (range_with_len a) count)

begins : (a m from n : ℕ) (rest : List ℕ) → range_with_len a (suc m) ++ rest ≡ range_with_len from n → a ≡ from
begins a m from zero rest h = absurd (cc)
begins a m from (suc n) rest h = cc

after_front : (m a n : ℕ) (rest : List ℕ) → range_with_len a m ++ rest ≡ range_with_len a n → rest ≡ range_with_len (a + m) (n - m)
after_front zero a n rest h =
    let at : a + zero ≡ a = omega arith in
    let count : n - zero ≡ n = omega arith in
    h ∙ sym (ap (λ k. range_with_len k (n - zero)) at ∙ ap (range_with_len a) count)
after_front (suc m) a zero rest h = absurd (cc)
after_front (suc m) a (suc n) rest h =
    let tail : range_with_len (a + 1) m ++ rest ≡ range_with_len (a + 1) n = cc in
    let at : a + 1 + m ≡ a + suc m = omega arith in
    let count : n - m ≡ suc n - suc m = omega arith in
    after_front m (a + 1) n rest tail ∙ ap (λ k. range_with_len k (n - m)) at ∙ ap (range_with_len (a + suc m)) count

fits_front : (m a n : ℕ) (rest : List ℕ) → range_with_len a m ++ rest ≡ range_with_len a n → m ≤ n
fits_front m a n rest h =
    omega (arith, sym (length-append (range_with_len a m) rest) ∙ ap length h, length-range_with_len a m, length-range_with_len a n)

pub follow : (from n last : ℕ) (ss : List Slice) → suc last ≡ from + n → AllByRecursion IsOrdered ss → flat_map days_in ss ≡ range_with_len from n → Follow from last ss
follow from n last [] ends ordered parts = tt
follow from n last (s ∷ ss) ends ordered parts =
    let count : ℕ = suc (s.last - s.first) in
    let order : s.first ≤ s.last = ordered.0 in
    let first : s.first ≡ from = begins s.first (s.last - s.first) from n (flat_map days_in ss) parts in
    let own : range_with_len from count ++ flat_map days_in ss ≡ range_with_len from n = ap (λ k. range_with_len k count ++ flat_map days_in ss) (sym first) ∙ parts in
    let few : count ≤ n = fits_front count from n (flat_map days_in ss) own in
    let next : from + count ≡ suc s.last = omega arith in
    let rest : flat_map days_in ss ≡ range_with_len (suc s.last) (n - count) = after_front count from n (flat_map days_in ss) own ∙ ap (λ k. range_with_len k (n - count)) next in
    let until : suc last ≡ suc s.last + (n - count) = omega arith in
    let within : s.last ≤ last = omega arith in
    (first, order, within, follow (suc s.last) (n - count) last ss until ordered.1 rest)
