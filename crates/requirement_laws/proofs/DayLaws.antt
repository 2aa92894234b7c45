-- Each day of the term lies in a slice of the book, and a requirement with this day is asked there.
use Rattle.std.proofs.Common.{inl, inr, ◌⊎◌, ◌≡◌, ℕ, zero, suc, ◌+◌, ◌-◌, ◌<◌, ◌≤◌, Bool, true, false, ◌||◌, cond, eqb, leb, List, [], ◌∷◌, ◌++◌, Some, Ok, Err, length, refl, sym, ap, subst, ◌∙◌, arith, All, IsTrue}
use Rattle.std.specs.List.{flat_map, list_any, range_with_len, slice_get}
use Rattle.std.proofs.lemmas.Bool.{and_from, and_parts, cases_eq, cases_Bool, eq-eqb, eqb-true, false≢true, le-leb, leb-true, or_cases}
use Rattle.book_model.specs.Activity.{is_within}
use Rattle.book_model.specs.Contents.{Contents}
use Rattle.book_model.specs.Slices.{AreAlike, IsOrdered, IsSteady, all_slices, days_in, days_of, slices_of}
use Rattle.book_model.specs.declared.record.Slice.{Slice}
use Rattle.book_model.specs.declared.slicing.LimitFault.{LimitFault}
use Rattle.book_model.specs.declared.slicing.LimitFault.TheVariants.{Slices}
use Rattle.book_model.proofs.SliceLaws.{slices_ordered, slices_partition, slices_steady}
use Rattle.requirements.specs.declared.requirement.Requirement.{Requirement}
use Rattle.kept_requirements.specs.Kept.{first_on, is_asked, last_on}

or_right : (t u : Bool) → u ≡ true → (t || u) ≡ true
or_right true u h = refl
or_right false u h = h

in_range : (day a n : ℕ) → a ≤ day → day < a + n → list_any (λ k. eqb k day) (range_with_len a n) ≡ true
in_range day a zero from until = absurd (omega (arith, from, until))
in_range day a (suc n) from until =
    elim (cases_eq a day) [
      | inl e ↦ ap (λ t. t || list_any (λ k. eqb k day) (range_with_len (a + 1) n)) (eq-eqb a day e)
      | inr other ↦ or_right (eqb a day) (list_any (λ k. eqb k day) (range_with_len (a + 1) n)) (in_range day (a + 1) n (omega arith) (omega arith))
    ]

range_bounds : (day a n : ℕ) → list_any (λ k. eqb k day) (range_with_len a n) ≡ true → (a ≤ day) × (day < a + n)
range_bounds day a zero h = absurd (false≢true h)
range_bounds day a (suc n) h =
    elim (or_cases (eqb a day) (list_any (λ k. eqb k day) (range_with_len (a + 1) n)) h) [
      | inl here ↦ let e : a ≡ day = eqb-true a day here in (omega arith, omega arith)
      | inr later ↦ let k : (a + 1 ≤ day) × (day < a + 1 + n) = range_bounds day (a + 1) n later in (omega arith, omega arith)
    ]

any-append : (p : ℕ → Bool) (xs ys : List ℕ) → list_any p (xs ++ ys) ≡ true → (list_any p xs ≡ true) ⊎ (list_any p ys ≡ true)
any-append p [] ys h = inr h
any-append p (x ∷ xs) ys h =
    elim (or_cases (p x) (list_any p (xs ++ ys)) h) [
      | inl here ↦ inl (ap (λ t. t || list_any p xs) here)
      | inr later ↦ elim (any-append p xs ys later) [ inl a ↦ inl (or_right (p x) (list_any p xs) a) | inr c ↦ inr c ]
    ]

record LiesIn (day : ℕ) (slices : List Slice) : Type 0 where
  place : ℕ
  slice : Slice
  is_there : slice_get slices place ≡ Some slice
  lies : list_any (λ k. eqb k day) (days_in slice) ≡ true

lies_in : (day : ℕ) (slices : List Slice) → list_any (λ k. eqb k day) (flat_map days_in slices) ≡ true → LiesIn day slices
lies_in day [] h = absurd (false≢true h)
lies_in day (s ∷ ss) h =
    elim (any-append (λ k. eqb k day) (days_in s) (flat_map days_in ss) h) [
      | inl here ↦ record { place = zero; slice = s; is_there = refl; lies = here }
      | inr later ↦ let r = lies_in day ss later in record { place = suc r.place; slice = r.slice; is_there = r.is_there; lies = r.lies }
    ]

ok_slices : (t : Bool) (all : List Slice) (fault : LimitFault) (slices : List Slice) → cond t (Ok all) (Err fault) ≡ Ok slices → all ≡ slices
ok_slices true all fault slices h = cc
ok_slices false all fault slices h = absurd (cc)

all_of : (b : Contents) (slices : List Slice) → slices_of b ≡ Ok slices → all_slices b ≡ slices
unfolding slices_of
all_of b slices h = ok_slices (leb (length (all_slices b)) 64) (all_slices b) (Slices (length (all_slices b))) slices h

-- the slice of a day of the term
pub record SliceAt (b : Contents) (slices : List Slice) (day : ℕ) : Type 0 where
  pub place : ℕ
  pub slice : Slice
  pub is_there : slice_get slices place ≡ Some slice
  pub from : slice.first ≤ day
  pub until : day ≤ slice.last
  pub alike : AreAlike b day slice.first

all_there : (P : Slice → Type 0) (ss : List Slice) (k : ℕ) (s : Slice) → All P ss → slice_get ss k ≡ Some s → P s
all_there P [] k s h there = absurd (cc)
all_there P (t ∷ ss) zero s h there = let same : t ≡ s = cc in subst P same (h zero t (omega arith))
all_there P (t ∷ ss) (suc k) s h there = all_there P ss k s (λ j d low. h (suc j) d (omega (arith, low))) there

pub slice_at : (b : Contents) (slices : List Slice) (day : ℕ) → b.first ≤ b.last → slices_of b ≡ Ok slices → IsTrue (is_within b.first b.last day) → SliceAt b slices day
slice_at b slices day term are within =
    let parts = and_parts (leb b.first day) (leb day b.last) within in
    let from : b.first ≤ day = leb-true b.first day parts.0 in
    let until : day ≤ b.last = leb-true day b.last parts.1 in
    let there : list_any (λ k. eqb k day) (days_of b) ≡ true = in_range day b.first (suc (b.last - b.first)) from (omega (arith, from, until)) in
    let whole : flat_map days_in slices ≡ days_of b = ap (flat_map days_in) (sym (all_of b slices are)) ∙ slices_partition b term in
    let r : LiesIn day slices = lies_in day slices (ap (list_any (λ k. eqb k day)) whole ∙ there) in
    let steady : IsSteady b r.slice = all_there (IsSteady b) slices r.place r.slice (subst (All (IsSteady b)) (all_of b slices are) (slices_steady b term)) r.is_there in
    let ordered : IsOrdered r.slice = all_there IsOrdered slices r.place r.slice (subst (All IsOrdered) (all_of b slices are) (slices_ordered b term)) r.is_there in
    let bounds : (r.slice.first ≤ day) × (day < r.slice.first + suc (r.slice.last - r.slice.first)) =
    range_bounds day r.slice.first (suc (r.slice.last - r.slice.first)) r.lies in
    elim (cases_Bool (leb day r.slice.last)) [
      | inl low ↦
          record {
            place = r.place;
            slice = r.slice;
            is_there = r.is_there;
            from = bounds.0;
            until = leb-true day r.slice.last low;
            alike = steady day (and_from (leb r.slice.first day) (leb day r.slice.last) (le-leb r.slice.first day bounds.0) low);
          }
      | inr high ↦ absurd (false≢true (sym high ∙ le-leb day r.slice.last (omega (arith, bounds.0, bounds.1, ordered))))
    ]

below_both : (t : Bool) (a c day : ℕ) → a ≤ day → c ≤ day → cond t a c ≤ day
below_both true a c day h g = h
below_both false a c day h g = g

above_both : (t : Bool) (a c day : ℕ) → day ≤ a → day ≤ c → day ≤ cond t a c
above_both true a c day h g = h
above_both false a c day h g = g

-- a requirement with the day is asked on its slice
pub asked_at : (r : Requirement) (s : Slice) (day : ℕ) → s.first ≤ day → day ≤ s.last → IsTrue (is_within r.from r.until day) → is_asked r s ≡ true
asked_at r s day from until within =
    let parts = and_parts (leb r.from day) (leb day r.until) within in
    let low : first_on r s ≤ day = below_both (leb r.from s.first) s.first r.from day from (leb-true r.from day parts.0) in
    let high : day ≤ last_on r s = above_both (leb s.last r.until) s.last r.until day until (leb-true day r.until parts.1) in
    le-leb (first_on r s) (last_on r s) (omega (arith, low, high))
