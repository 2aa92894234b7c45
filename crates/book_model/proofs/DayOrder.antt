-- Lists of days: two that rise and have the same days are the same list.
use Rattle.std.proofs.Common.{◌≡◌, ℕ, zero, suc, ◌+◌, ◌-◌, ◌<◌, ◌≤◌, Bool, true, false, ◌&&◌, ◌||◌, cond, eqb, ltb, leb, List, [], ◌∷◌, refl, sym, ap, subst, ◌∙◌, inl, inr, arith, All}
use Rattle.std.specs.List.{filter, range_with_len, dedup, dedup_from, AllPairs}
use Rattle.std.specs.List.Sorted.{IsSorted, IsPermutation}
use Rattle.std.specs.Ordering.{nat_cmp}
use Rattle.std.proofs.lemmas.Bool.{cases_Bool, cases_order, cases_lt, eqb-true, eq-eqb, ne_eqb, le-leb, lt-leb, lt-ltb, le-ltb, or_left, or_from, and_left, and_right, and_from, true≢false, false≢true, cond_both}
use Rattle.std.proofs.lemmas.List.Elements.{All-cons, All-filter}
use Rattle.std.proofs.lemmas.List.FromFn.{length-range_with_len, get_or-range_with_len}
use Rattle.std.proofs.lemmas.List.Sorted.{list_any-IsPermutation}
use Rattle.std.proofs.lemmas.List.Kept.{AllPairs-from_increasing}
use Rattle.std.proofs.lemmas.Map.Keys.{IsStrictlyIncreasing-dedup}
use Rattle.book_model.specs.Activity.{is_within}
use Rattle.book_model.specs.DayLists.{has_day, AddsDays}

-- each day is below all that follow it
abbrev pub Rises : List ℕ → Type 0
Rises [] = Unit {0}
Rises (day ∷ days) = All (λ later. day < later) days × Rises days

rises_from_pairs : (xs : List ℕ) → AllPairs (λ x y. x < y) xs → Rises xs
rises_from_pairs [] pairs = tt
rises_from_pairs (x ∷ xs) pairs =
    (λ k d lt. pairs zero (suc k) d (omega arith) (omega (arith, lt)), rises_from_pairs xs (λ i j d ij jl. pairs (suc i) (suc j) d (omega (arith, ij)) (omega (arith, jl))))

pub rises_dedup : (xs : List ℕ) → IsSorted nat_cmp xs → Rises (dedup eqb xs)
rises_dedup xs sorted = rises_from_pairs (dedup eqb xs) (AllPairs-from_increasing (dedup eqb xs) (IsStrictlyIncreasing-dedup xs sorted))

pub rises_filter : (p : ℕ → Bool) (xs : List ℕ) → Rises xs → Rises (filter p xs)
rises_filter p [] r = tt
rises_filter p (x ∷ xs) r =
    let rest = rises_filter p xs r.1 in
    cond_both (p x) (x ∷ filter p xs) (filter p xs) Rises (λ e. (All-filter p (λ later. x < later) xs r.0, rest)) (λ e. rest)

pub rises_range : (a n : ℕ) → Rises (range_with_len a n)
rises_range a zero = tt
rises_range a (suc n) =
    (λ k d lt. omega (arith, get_or-range_with_len (a + 1) n k d (omega (arith, lt, length-range_with_len (a + 1) n))), rises_range (a + 1) n)

-- a day below all of them is not among them
later_absent : (d : ℕ) (xs : List ℕ) → All (λ y. d < y) xs → has_day xs d ≡ false
later_absent d [] above = refl
later_absent d (y ∷ ys) above =
    let lt : d < y = above zero y (omega arith) in
    or_from (eqb d y) (has_day ys d) (ne_eqb d y (λ e. omega arith)) (later_absent d ys (λ k e w. above (suc k) e (omega (arith, w))))

has_first : (d : ℕ) (xs : List ℕ) → has_day (d ∷ xs) d ≡ true
has_first d xs = or_left (eqb d d) (has_day xs d) (eq-eqb d d refl)

not_before : (x y : ℕ) (xs ys : List ℕ) → Rises (y ∷ ys) → x < y → ((d : ℕ) → has_day (x ∷ xs) d ≡ has_day (y ∷ ys) d) → ⊥
not_before x y xs ys s lt same =
    true≢false (sym (has_first x xs) ∙ same x ∙ later_absent x (y ∷ ys) (All-cons (λ z. x < z) y ys lt (λ k e w. omega (arith, s.0 k e w))))

same_first : (x y : ℕ) (xs ys : List ℕ) → Rises (x ∷ xs) → Rises (y ∷ ys) → ((d : ℕ) → has_day (x ∷ xs) d ≡ has_day (y ∷ ys) d) → x ≡ y
same_first x y xs ys r s same =
    elim (cases_order x y) [
      | inl e ↦ e
      | inr apart ↦ elim apart [
        | inl lt ↦ absurd (not_before x y xs ys s lt same)
        | inr gt ↦ absurd (not_before y x ys xs r gt (λ d. sym (same d)))
      ]
    ]

without_first : (x d : ℕ) (xs : List ℕ) → eqb d x ≡ false → has_day (x ∷ xs) d ≡ has_day xs d
without_first x d xs e = ap (λ c. c || has_day xs d) e

same_rest : (x : ℕ) (xs ys : List ℕ) → Rises (x ∷ xs) → Rises (x ∷ ys) → ((d : ℕ) → has_day (x ∷ xs) d ≡ has_day (x ∷ ys) d) → (d : ℕ) → has_day xs d ≡ has_day ys d
same_rest x xs ys r s same d =
    elim (cases_Bool (eqb d x)) [
      | inl here ↦
          let e : d ≡ x = eqb-true d x here in
          later_absent d xs (λ k z w. omega (arith, r.0 k z w, e)) ∙ sym (later_absent d ys (λ k z w. omega (arith, s.0 k z w, e)))
      | inr other ↦ sym (without_first x d xs other) ∙ same d ∙ without_first x d ys other
    ]

pub same_days : (xs ys : List ℕ) → Rises xs → Rises ys → ((d : ℕ) → has_day xs d ≡ has_day ys d) → xs ≡ ys
same_days [] [] r s same = refl
same_days [] (y ∷ ys) r s same = absurd (false≢true (same y ∙ has_first y ys))
same_days (x ∷ xs) [] r s same = absurd (true≢false (sym (has_first x xs) ∙ same x))
same_days (x ∷ xs) (y ∷ ys) r s same =
    let head = same_first x y xs ys r s same in
    let s' : Rises (x ∷ ys) = subst (λ z. Rises (z ∷ ys)) (sym head) s in
    let same' : (d : ℕ) → has_day (x ∷ xs) d ≡ has_day (x ∷ ys) d = λ d. same d ∙ ap (λ z. has_day (z ∷ ys) d) (sym head) in
    ap (λ zs. x ∷ zs) (same_days xs ys r.1 s.1 (same_rest x xs ys r s' same')) ∙ ap (λ z. z ∷ ys) head

-- ---- which days a filter, a range and a `dedup` have
filter_step : (px e pd h f : Bool) → (e ≡ true → px ≡ pd) → f ≡ (h && pd) → cond px (e || f) f ≡ ((e || h) && pd)
filter_step true true true h f k q = refl
filter_step true true false h f k q = absurd (true≢false (k refl))
filter_step true false pd h f k q = q
filter_step false true true h f k q = absurd (false≢true (k refl))
filter_step false true false h f k q = q ∙ and_right h false refl
filter_step false false pd h f k q = q

has_cond : (c : Bool) (x d : ℕ) (xs : List ℕ) → has_day (cond c (x ∷ xs) xs) d ≡ cond c (eqb d x || has_day xs d) (has_day xs d)
has_cond true x d xs = refl
has_cond false x d xs = refl

has_day-filter : (p : ℕ → Bool) (xs : List ℕ) (d : ℕ) → has_day (filter p xs) d ≡ (has_day xs d && p d)
has_day-filter p [] d = refl
has_day-filter p (x ∷ xs) d =
    has_cond (p x) x d (filter p xs)
    ∙ filter_step (p x) (eqb d x) (p d) (has_day xs d) (has_day (filter p xs) d) (λ e. ap p (sym (eqb-true d x e))) (has_day-filter p xs d)

has_day-range : (a n d : ℕ) → has_day (range_with_len a n) d ≡ (leb a d && ltb d (a + n))
has_day-range a zero d =
    elim (cases_lt d a) [
      | inl lt ↦ sym (and_left (leb a d) (ltb d (a + zero)) (lt-leb a d lt))
      | inr ge ↦ sym (and_right (leb a d) (ltb d (a + zero)) (le-ltb d (a + zero) (omega arith)))
    ]
has_day-range a (suc n) d =
    let rest = has_day-range (a + 1) n d in
    elim (cases_order a d) [
      | inl e ↦ or_left (eqb d a) (has_day (range_with_len (a + 1) n) d) (eq-eqb d a (sym e)) ∙ sym (and_from (leb a d) (ltb d (a + suc n)) (le-leb a d (omega arith)) (lt-ltb d (a + suc n) (omega arith)))
      | inr apart ↦ elim apart [
        | inl lt ↦
            let same : a + 1 + n ≡ a + suc n = omega arith in
            ap (λ c. c || has_day (range_with_len (a + 1) n) d) (ne_eqb d a (λ e. omega arith)) ∙ rest
            ∙ ap (λ c. c && ltb d (a + 1 + n)) (le-leb (a + 1) d (omega arith)) ∙ ap (λ m. ltb d m) same
            ∙ sym (ap (λ c. c && ltb d (a + suc n)) (le-leb a d (omega arith)))
        | inr gt ↦
            or_from (eqb d a) (has_day (range_with_len (a + 1) n) d) (ne_eqb d a (λ e. omega arith)) (rest ∙ and_left (leb (a + 1) d) (ltb d (a + 1 + n)) (lt-leb (a + 1) d (omega arith)))
            ∙ sym (and_left (leb a d) (ltb d (a + suc n)) (lt-leb a d gt))
      ]
    ]

-- the days of a term are those from its first to its last
pub has_day-term : (first last d : ℕ) → first ≤ last → has_day (range_with_len first (suc (last - first))) d ≡ is_within first last d
has_day-term first last d ordered =
    has_day-range first (suc (last - first)) d ∙ ap (λ c. leb first d && c) (
    elim (cases_lt last d) [
      | inl after_ ↦ le-ltb d (first + suc (last - first)) (omega arith) ∙ sym (lt-leb d last after_)
      | inr before_ ↦ lt-ltb d (first + suc (last - first)) (omega arith) ∙ sym (le-leb d last before_)
    ])

or_twice : (a b : Bool) → (a || b) ≡ (a || (a || b))
or_twice true b = refl
or_twice false b = refl

has_dedup_from : (x : ℕ) (xs : List ℕ) (d : ℕ) → has_day (dedup_from eqb x xs) d ≡ (eqb d x || has_day xs d)
has_dedup_from x [] d = refl
has_dedup_from x (y ∷ ys) d =
    elim (cases_Bool (eqb y x)) [
      | inl same ↦
          ap (λ c. has_day (cond c (dedup_from eqb x ys) (x ∷ dedup_from eqb y ys)) d) same
          ∙ has_dedup_from x ys d ∙ or_twice (eqb d x) (has_day ys d)
          ∙ ap (λ z. eqb d x || (eqb d z || has_day ys d)) (sym (eqb-true y x same))
      | inr other ↦
          ap (λ c. has_day (cond c (dedup_from eqb x ys) (x ∷ dedup_from eqb y ys)) d) other
          ∙ ap (λ c. eqb d x || c) (has_dedup_from y ys d)
    ]

has_day-dedup : (xs : List ℕ) (d : ℕ) → has_day (dedup eqb xs) d ≡ has_day xs d
has_day-dedup [] d = refl
has_day-dedup (x ∷ xs) d = has_dedup_from x xs d

-- the days of a term that pass, sorted and without repeats, are the term's days of which those are kept that pass
pub sorted_days : (first last most : ℕ) (p : ℕ → Bool) (raw sorted : List ℕ) → first ≤ last → IsPermutation raw sorted → IsSorted nat_cmp sorted
    → AddsDays [] raw most (λ day. is_within first last day && p day) → dedup eqb sorted ≡ filter p (range_with_len first (suc (last - first)))
sorted_days first last most p raw sorted ordered moved order adds =
    let days = range_with_len first (suc (last - first)) in
    same_days (dedup eqb sorted) (filter p days) (rises_dedup sorted order) (rises_filter p days (rises_range first (suc (last - first))))
    (λ d. has_day-dedup sorted d ∙ sym (list_any-IsPermutation (λ e. eqb d e) raw sorted moved) ∙ adds.days d
    ∙ sym (has_day-filter p days d ∙ ap (λ c. c && p d) (has_day-term first last d ordered)))
