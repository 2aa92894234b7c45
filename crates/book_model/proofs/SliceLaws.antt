-- The slices of a book partition its term, and on all days of a slice the same records are active.
use Rattle.std.proofs.Common.{◌≡◌, ℕ, zero, suc, ◌+◌, ◌-◌, ◌<◌, ◌≤◌, Bool, true, false, ◌&&◌, cond, eqb, leb, List, [], ◌∷◌, ◌++◌, get_or, refl, sym, ap, subst, ◌∙◌, inl, inr, arith, All, append-nil}
use Rattle.std.specs.List.{filter, flat_map, range_with_len, list_any}
use Rattle.std.proofs.lemmas.Bool.{cases_Bool, cases_lt, cases_order, eq-eqb, eqb-false, leb-true, le-leb, lt-leb, and_parts, or_left, or_parts}
use Rattle.std.proofs.lemmas.List.Elements.{All-nil, All-cons, All-weaker}
use Rattle.book_model.specs.Activity.{is_within}
use Rattle.book_model.specs.Contents.{Contents}
use Rattle.book_model.specs.Slices.{days_from_to, periods_of, turns_at, is_change, days_of, runs_from, all_slices, days_in, IsOrdered, IsSteady}
use Rattle.book_model.specs.declared.record.Slice.{Slice}

range_with_len-append : (a k n : ℕ) → range_with_len a k ++ range_with_len (a + k) n ≡ range_with_len a (k + n)
range_with_len-append a zero n =
    let at : a + zero ≡ a = omega arith in
    let count : zero + n ≡ n = omega arith in
    ap (λ m. range_with_len m n) at ∙ sym (ap (range_with_len a) count)
range_with_len-append a (suc k) n =
    let at : a + suc k ≡ a + 1 + k = omega arith in
    let count : suc k + n ≡ suc (k + n) = omega arith in
    ap (λ m. a ∷ (range_with_len (a + 1) k ++ range_with_len m n)) at
    ∙ ap (λ days. a ∷ days) (range_with_len-append (a + 1) k n)
    ∙ sym (ap (range_with_len a) count)

-- the runs of the days from s on, where the changes after s are those from a on that pass
abbrev runs_after : (ℕ → Bool) → ℕ → ℕ → ℕ → ℕ → List Slice
runs_after p m s a last = runs_from (s ∷ filter p (range_with_len a m)) last

runs_at_change : (p : ℕ → Bool) (m s a last : ℕ) → p a ≡ true → runs_after p (suc m) s a last ≡ days_from_to s (a - 1) ∷ runs_after p m a (a + 1) last
runs_at_change p m s a last on = ap (λ c. runs_from (s ∷ cond c (a ∷ filter p (range_with_len (a + 1) m)) (filter p (range_with_len (a + 1) m))) last) on

runs_at_no_change : (p : ℕ → Bool) (m s a last : ℕ) → p a ≡ false → runs_after p (suc m) s a last ≡ runs_after p m s (a + 1) last
runs_at_no_change p m s a last off = ap (λ c. runs_from (s ∷ cond c (a ∷ filter p (range_with_len (a + 1) m)) (filter p (range_with_len (a + 1) m))) last) off

days_of_runs : (p : ℕ → Bool) (m s a last : ℕ) → s < a → suc last ≡ a + m → flat_map days_in (runs_after p m s a last) ≡ range_with_len s (a - s + m)
days_of_runs p zero s a last before ends =
    let count : suc (last - s) ≡ a - s + zero = omega arith in
    append-nil (range_with_len s (suc (last - s))) ∙ ap (range_with_len s) count
days_of_runs p (suc m) s a last before ends =
    elim (cases_Bool (p a)) [
      | inl on ↦
          let own : suc (a - 1 - s) ≡ a - s = omega arith in
          let next : a ≡ s + (a - s) = omega arith in
          let left : a + 1 - a + m ≡ suc m = omega arith in
          ap (flat_map days_in) (runs_at_change p m s a last on)
          ∙ ap (λ days. range_with_len s (suc (a - 1 - s)) ++ days) (days_of_runs p m a (a + 1) last (omega arith) (omega arith))
          ∙ ap (λ n. range_with_len s n ++ range_with_len a (a + 1 - a + m)) own
          ∙ ap (λ n. range_with_len s (a - s) ++ range_with_len a n) left
          ∙ ap (λ n. range_with_len s (a - s) ++ range_with_len n (suc m)) next
          ∙ range_with_len-append s (a - s) (suc m)
      | inr off ↦
          let count : a + 1 - s + m ≡ a - s + suc m = omega arith in
          ap (flat_map days_in) (runs_at_no_change p m s a last off)
          ∙ days_of_runs p m s (a + 1) last (omega arith) (omega arith)
          ∙ ap (range_with_len s) count
    ]

-- the first day of the term is a change day, and the others follow it
slices_after_first : (b : Contents) → all_slices b ≡ runs_after (is_change b) (b.last - b.first) b.first (b.first + 1) b.last
slices_after_first b =
    let rest = filter (is_change b) (range_with_len (b.first + 1) (b.last - b.first)) in
    let on : is_change b b.first ≡ true = or_left (eqb b.first b.first) (list_any (turns_at b.first) (periods_of b)) (eq-eqb b.first b.first refl) in
    ap (λ c. runs_from (cond c (b.first ∷ rest) rest) b.last) on

-- the days of the slices, one slice after another, are the days of the term
pub slices_partition : (b : Contents) → b.first ≤ b.last → flat_map days_in (all_slices b) ≡ days_of b
slices_partition b ordered =
    let count : b.first + 1 - b.first + (b.last - b.first) ≡ suc (b.last - b.first) = omega arith in
    ap (flat_map days_in) (slices_after_first b)
    ∙ days_of_runs (is_change b) (b.last - b.first) b.first (b.first + 1) b.last (omega arith) (omega arith)
    ∙ ap (range_with_len b.first) count

runs_ordered : (p : ℕ → Bool) (m s a last : ℕ) → s < a → suc last ≡ a + m → All IsOrdered (runs_after p m s a last)
runs_ordered p zero s a last before ends = All-cons IsOrdered (days_from_to s last) [] (omega arith) (All-nil IsOrdered)
runs_ordered p (suc m) s a last before ends =
    elim (cases_Bool (p a)) [
      | inl on ↦
          subst (λ runs. All IsOrdered runs) (sym (runs_at_change p m s a last on))
          (All-cons IsOrdered (days_from_to s (a - 1)) (runs_after p m a (a + 1) last) (omega arith) (runs_ordered p m a (a + 1) last (omega arith) (omega arith)))
      | inr off ↦
          subst (λ runs. All IsOrdered runs) (sym (runs_at_no_change p m s a last off)) (runs_ordered p m s (a + 1) last (omega arith) (omega arith))
    ]

-- no slice ends before it begins
pub slices_ordered : (b : Contents) → b.first ≤ b.last → All IsOrdered (all_slices b)
slices_ordered b ordered =
    subst (λ runs. All IsOrdered runs) (sym (slices_after_first b)) (runs_ordered (is_change b) (b.last - b.first) b.first (b.first + 1) b.last (omega arith) (omega arith))

-- no day of the slice but its first passes
abbrev ChangesAtFirst : (ℕ → Bool) → Slice → Type 0
ChangesAtFirst p slice = (day : ℕ) → slice.first < day → day ≤ slice.last → p day ≡ false

changes_at_first : (p : ℕ → Bool) (m s a last : ℕ) → s < a → suc last ≡ a + m → ((day : ℕ) → s < day → day < a → p day ≡ false) → All (ChangesAtFirst p) (runs_after p m s a last)
changes_at_first p zero s a last before ends quiet =
    All-cons (ChangesAtFirst p) (days_from_to s last) [] (λ day low high. quiet day low (omega (arith, high))) (All-nil (ChangesAtFirst p))
changes_at_first p (suc m) s a last before ends quiet =
    elim (cases_Bool (p a)) [
      | inl on ↦
          subst (λ runs. All (ChangesAtFirst p) runs) (sym (runs_at_change p m s a last on))
          (All-cons (ChangesAtFirst p) (days_from_to s (a - 1)) (runs_after p m a (a + 1) last) (λ day low high. quiet day low (omega (arith, high)))
          (changes_at_first p m a (a + 1) last (omega arith) (omega arith) (λ day low high. absurd (omega (arith, low, high)))))
      | inr off ↦
          subst (λ runs. All (ChangesAtFirst p) runs) (sym (runs_at_no_change p m s a last off))
          (changes_at_first p m s (a + 1) last (omega arith) (omega arith)
          (λ day low high. elim (cases_lt day a) [ inl lt ↦ quiet day low lt | inr ge ↦ let here : day ≡ a = omega (arith, high) in ap p here ∙ off ]))
    ]

same_leb : (a b c d : ℕ) → (a ≤ b → c ≤ d) → (c ≤ d → a ≤ b) → leb a b ≡ leb c d
same_leb a b c d to from =
    elim (cases_lt b a) [
      | inl lt ↦ lt-leb a b lt ∙ sym (elim (cases_lt d c) [ inl below ↦ lt-leb c d below | inr above ↦ absurd (omega (arith, from above)) ])
      | inr le ↦ le-leb a b le ∙ sym (le-leb c d (to le))
    ]

next_day : (from until day : ℕ) → turns_at (suc day) (days_from_to from until) ≡ false → is_within from until (suc day) ≡ is_within from until day
next_day from until day still =
    let parts = or_parts (eqb (suc day) from) (eqb (suc day) (until + 1)) still in
    let begins = eqb-false (suc day) from parts.0 in
    let ended = eqb-false (suc day) (until + 1) parts.1 in
    ap (λ c. c && leb (suc day) until) (same_leb from (suc day) from day (λ h. elim (cases_lt from (suc day)) [ inl lt ↦ omega arith | inr ge ↦ absurd (begins (omega arith)) ]) (λ h. omega arith))
    ∙ ap (λ c. leb from day && c) (same_leb (suc day) until day until (λ h. omega arith) (λ h. elim (cases_order day until) [ inl e ↦ absurd (ended (omega arith)) | inr apart ↦ elim apart [ inl lt ↦ omega arith | inr gt ↦ absurd (omega arith) ] ]))

days_later : (from until first k : ℕ) → ((day : ℕ) → first < day → day ≤ first + k → turns_at day (days_from_to from until) ≡ false) → is_within from until (first + k) ≡ is_within from until first
days_later from until first zero still = let same : first + zero ≡ first = omega arith in ap (is_within from until) same
days_later from until first (suc k) still =
    let same : first + suc k ≡ suc (first + k) = omega arith in
    ap (is_within from until) same
    ∙ next_day from until (first + k) (still (suc (first + k)) (omega arith) (omega arith))
    ∙ days_later from until first k (λ day low high. still day low (omega (arith, high)))

none_turns : (day : ℕ) (periods : List Slice) → list_any (turns_at day) periods ≡ false → All (λ period. turns_at day period ≡ false) periods
none_turns day [] none = All-nil (λ period. turns_at day period ≡ false)
none_turns day (period ∷ periods) none =
    let parts = or_parts (turns_at day period) (list_any (turns_at day) periods) none in
    All-cons (λ p. turns_at day p ≡ false) period periods parts.0 (none_turns day periods parts.1)

steady_from_changes : (b : Contents) (slice : Slice) → ChangesAtFirst (is_change b) slice → IsSteady b slice
steady_from_changes b slice quiet day inside k d within =
    let parts = and_parts (leb slice.first day) (leb day slice.last) inside in
    let low = leb-true slice.first day parts.0 in
    let high = leb-true day slice.last parts.1 in
    let period = get_or (periods_of b) k d in
    let there : slice.first + (day - slice.first) ≡ day = omega arith in
    sym (ap (is_within period.first period.last) there)
    ∙ days_later period.first period.last slice.first (day - slice.first)
    (λ e above upto. none_turns e (periods_of b) (or_parts (eqb e b.first) (list_any (turns_at e) (periods_of b)) (quiet e above (omega (arith, upto)))).1 k d within)

-- on all days of a slice the same records are active
pub slices_steady : (b : Contents) → b.first ≤ b.last → All (IsSteady b) (all_slices b)
slices_steady b ordered =
    All-weaker (ChangesAtFirst (is_change b)) (IsSteady b) (steady_from_changes b) (all_slices b)
    (subst (λ runs. All (ChangesAtFirst (is_change b)) runs) (sym (slices_after_first b))
    (changes_at_first (is_change b) (b.last - b.first) b.first (b.first + 1) b.last (omega arith) (omega arith) (λ day low high. absurd (omega (arith, low, high)))))
