-- On two days on which the same records are active, the same sets are good, the same variants are selected and the same sets are
-- sound; and each day of a term is like the first day of one of its slices.
use Rattle.std.proofs.Common.{◌≡◌, ℕ, zero, suc, ◌+◌, ◌-◌, ◌<◌, ◌≤◌, Bool, true, false, not, ◌&&◌, ◌||◌, cond, eqb, List, [], ◌∷◌, ◌++◌, Some, length, map, inl, inr, refl, sym, ap, subst, ◌∙◌, ◌⊎◌, arith, IsTrue}
use Rattle.std.specs.List.{filter, slice_get, list_any, range_with_len, flat_map, AllByRecursion, Contains}
use Rattle.std.specs.Option.{option_map_or}
use Rattle.std.proofs.lemmas.Bool.{false≢true, or_cases, and_from, eqb-true, eq-eqb, le-leb, cases_eq}
use Rattle.std.proofs.lemmas.List.Elements.{recursion_from_All, All-from_recursion, All-contains}
use Rattle.pb_base.specs.Rule.{holds}
use Rattle.pb_base.specs.Sets.{has}
use Rattle.book_model.specs.Activity.{is_within}
use Rattle.book_model.specs.Contents.{Contents}
use Rattle.book_model.specs.Good.{fires, breaks, is_met, is_good, is_closed, is_constructible}
use Rattle.book_model.specs.Parts.{variants_of, is_selected, is_selected_at}
use Rattle.book_model.specs.Sound.{permits, is_fit, are_fit_from, is_sound}
use Rattle.book_model.specs.Slices.{periods_of, days_from_to, days_in, AreAlike, IsSteady}
use Rattle.book_model.specs.declared.record.Slice.{Slice}
use Rattle.book_model.specs.declared.record.Supplement.{Supplement}
use Rattle.book_model.specs.declared.record.Construct.{Construct}
use Rattle.book_model.specs.declared.record.Position.{Position}
use Rattle.book_model.specs.declared.record.Variant.{Variant}

-- a record with these days is active on both days or on neither
abbrev pub IsAlike : ℕ → ℕ → Slice → Type 0
IsAlike day other period = is_within period.first period.last day ≡ is_within period.first period.last other

module _ {X : Type 0} (P : X → Type 0) where
  all_first : (xs ys : List X) → AllByRecursion P (xs ++ ys) → AllByRecursion P xs
  all_first [] ys h = tt
  all_first (x ∷ xs) ys h = (h.0, all_first xs ys h.1)

  all_last : (xs ys : List X) → AllByRecursion P (xs ++ ys) → AllByRecursion P ys
  all_last [] ys h = h
  all_last (x ∷ xs) ys h = all_last xs ys h.1

any_fires : (d e : ℕ) (x : List Bool) (ss : List Supplement) → AllByRecursion (IsAlike d e) (map (λ s. days_from_to s.from s.until) ss)
    → list_any (fires d x) ss ≡ list_any (fires e x) ss
any_fires d e x [] h = refl
any_fires d e x (s ∷ ss) h =
    ap (λ t. (t && holds s.rule x && not (has x s.code)) || list_any (fires d x) ss) h.0 ∙ ap (λ t. fires e x s || t) (any_fires d e x ss h.1)

pub any_breaks : (d e : ℕ) (x : List Bool) (cs : List Construct) → AllByRecursion (IsAlike d e) (map (λ c. days_from_to c.from c.until) cs)
    → list_any (breaks d x) cs ≡ list_any (breaks e x) cs
any_breaks d e x [] h = refl
any_breaks d e x (c ∷ cs) h =
    ap (λ t. (t && not (is_met x c.demand)) || list_any (breaks d x) cs) h.0 ∙ ap (λ t. breaks e x c || t) (any_breaks d e x cs h.1)

selected_at_alike : (d e : ℕ) (x : List Bool) (vs : List Variant) (k : ℕ) → AllByRecursion (IsAlike d e) (map (λ v. days_from_to v.from v.until) vs)
    → option_map_or (is_selected d x) (slice_get vs k) false ≡ option_map_or (is_selected e x) (slice_get vs k) false
selected_at_alike d e x [] k h = refl
selected_at_alike d e x (v ∷ vs) zero h = ap (λ t. t && holds v.rule x) h.0
selected_at_alike d e x (v ∷ vs) (suc k) h = selected_at_alike d e x vs k h.1

same_filter : (p q : ℕ → Bool) → ((k : ℕ) → p k ≡ q k) → (ks : List ℕ) → filter p ks ≡ filter q ks
same_filter p q same [] = refl
same_filter p q same (k ∷ ks) = ap (λ t. cond t (k ∷ filter p ks) (filter p ks)) (same k) ∙ ap (λ l. cond (q k) (k ∷ l) l) (same_filter p q same ks)

fit_alike : (b : Contents) (d e : ℕ) (x : List Bool) → ((k : ℕ) → is_selected_at b d x k ≡ is_selected_at b e x k) → (i : ℕ) (ps : List Position)
    → AllByRecursion (IsAlike d e) (map (λ p. days_from_to p.from p.until) ps) → are_fit_from i b d x ps ≡ are_fit_from i b e x ps
fit_alike b d e x same i [] h = refl
fit_alike b d e x same i (p ∷ ps) h =
    ap (λ t. (not t || permits p (length (cond t (filter (is_selected_at b d x) (variants_of i b.variants)) []))) && are_fit_from (suc i) b d x ps) h.0
    ∙ ap (λ l. (not (is_within p.from p.until e) || permits p (length (cond (is_within p.from p.until e) l []))) && are_fit_from (suc i) b d x ps) (same_filter (is_selected_at b d x) (is_selected_at b e x) same (variants_of i b.variants))
    ∙ ap (λ t. is_fit b e x i p && t) (fit_alike b d e x same (suc i) ps h.1)

-- the records of each kind are active on both days or on neither
pub record RecordsAlike (b : Contents) (d e : ℕ) : Type 0 where
  pub supplements : AllByRecursion (IsAlike d e) (map (λ s. days_from_to s.from s.until) b.supplements)
  pub constructs : AllByRecursion (IsAlike d e) (map (λ c. days_from_to c.from c.until) b.constructs)
  pub positions : AllByRecursion (IsAlike d e) (map (λ p. days_from_to p.from p.until) b.positions)
  pub variants : AllByRecursion (IsAlike d e) (map (λ v. days_from_to v.from v.until) b.variants)

pub records_alike : (b : Contents) (d e : ℕ) → AreAlike b d e → RecordsAlike b d e
records_alike b d e alike =
    let h : AllByRecursion (IsAlike d e) (periods_of b) = recursion_from_All (IsAlike d e) (periods_of b) alike in
    let s : List Slice = map (λ s. days_from_to s.from s.until) b.supplements in
    let c : List Slice = map (λ c. days_from_to c.from c.until) b.constructs in
    let p : List Slice = map (λ p. days_from_to p.from p.until) b.positions in
    let v : List Slice = map (λ v. days_from_to v.from v.until) b.variants in
    let scp : AllByRecursion (IsAlike d e) (s ++ c ++ p) = all_first (IsAlike d e) (s ++ c ++ p) v h in
    let sc : AllByRecursion (IsAlike d e) (s ++ c) = all_first (IsAlike d e) (s ++ c) p scp in
    record {
      supplements = all_first (IsAlike d e) s c sc;
      constructs = all_last (IsAlike d e) s c sc;
      positions = all_last (IsAlike d e) (s ++ c) p scp;
      variants = all_last (IsAlike d e) (s ++ c ++ p) v h;
    }

each_mapped : (d e : ℕ) (ss : List Supplement) → AllByRecursion (IsAlike d e) (map (λ s. days_from_to s.from s.until) ss)
    → AllByRecursion (λ (r : Supplement). IsAlike d e (days_from_to r.from r.until)) ss
each_mapped d e [] h = tt
each_mapped d e (s ∷ ss) h = (h.0, each_mapped d e ss h.1)

pub constructible_alike : (b : Contents) (d e : ℕ) (x : List Bool) → AreAlike b d e → is_constructible b d x ≡ is_constructible b e x
constructible_alike b d e x h = ap not (any_breaks d e x b.constructs (records_alike b d e h).constructs)

pub good_alike : (b : Contents) (d e : ℕ) (x : List Bool) → AreAlike b d e → is_good b d x ≡ is_good b e x
good_alike b d e x h =
    let records = records_alike b d e h in
    ap (λ t. not t && is_constructible b d x && eqb (length x) (length b.codes)) (any_fires d e x b.supplements records.supplements)
    ∙ ap (λ t. is_closed b e x && t && eqb (length x) (length b.codes)) (constructible_alike b d e x h)

-- a supplementing rule of the book fires on both days or on neither
pub fires_alike : (b : Contents) (d e : ℕ) (x : List Bool) (s : Supplement) → AreAlike b d e → Contains b.supplements s → fires d x s ≡ fires e x s
fires_alike b d e x s h there =
    let active : IsAlike d e (days_from_to s.from s.until) =
    All-contains (λ (r : Supplement). IsAlike d e (days_from_to r.from r.until)) b.supplements s
    (All-from_recursion (λ (r : Supplement). IsAlike d e (days_from_to r.from r.until)) b.supplements (each_mapped d e b.supplements (records_alike b d e h).supplements)) there in
    ap (λ t. t && holds s.rule x && not (has x s.code)) active

pub sound_alike : (b : Contents) (d e : ℕ) (x : List Bool) → AreAlike b d e → is_sound b d x ≡ is_sound b e x
sound_alike b d e x h =
    let records = records_alike b d e h in
    fit_alike b d e x (λ k. selected_at_alike d e x b.variants k records.variants) 0 b.positions records.positions

-- good and sound are alike on all days of a slice
pub good_on_slice : (b : Contents) (s : Slice) (day : ℕ) (x : List Bool) → IsSteady b s → IsTrue (is_within s.first s.last day) → is_good b day x ≡ is_good b s.first x
good_on_slice b s day x steady within = good_alike b day s.first x (steady day within)

pub sound_on_slice : (b : Contents) (s : Slice) (day : ℕ) (x : List Bool) → IsSteady b s → IsTrue (is_within s.first s.last day) → is_sound b day x ≡ is_sound b s.first x
sound_on_slice b s day x steady within = sound_alike b day s.first x (steady day within)

-- Each day of a run of slices lies in one of them.
or_right : (t u : Bool) → u ≡ true → (t || u) ≡ true
or_right true u h = refl
or_right false u h = h

in_range : (day a n : ℕ) → a ≤ day → day < a + n → list_any (λ k. eqb k day) (range_with_len a n) ≡ true
in_range day a zero from until = absurd (omega arith)
in_range day a (suc n) from until =
    elim (cases_eq a day) [
      | inl e ↦ ap (λ t. t || list_any (λ k. eqb k day) (range_with_len (a + 1) n)) (eq-eqb a day e)
      | inr other ↦ or_right (eqb a day) (list_any (λ k. eqb k day) (range_with_len (a + 1) n)) (in_range day (a + 1) n (omega arith) (omega arith))
    ]

range_bounds : (day a n : ℕ) → list_any (λ k. eqb k day) (range_with_len a n) ≡ true → (a ≤ day) × (day < a + n)
range_bounds day a zero h = absurd (false≢true h)
range_bounds day a (suc n) h =
    elim (or_cases (eqb a day) (list_any (λ k. eqb k day) (range_with_len (a + 1) n)) h) [
      | inl here ↦ let e : a ≡ day = eqb-true a day here in (omega arith, omega arith)
      | inr later ↦ let k : (a + 1 ≤ day) × (day < a + 1 + n) = range_bounds day (a + 1) n later in (omega arith, omega arith)
    ]

any-append : (p : ℕ → Bool) (xs ys : List ℕ) → list_any p (xs ++ ys) ≡ true → (list_any p xs ≡ true) ⊎ (list_any p ys ≡ true)
any-append p [] ys h = inr h
any-append p (x ∷ xs) ys h =
    elim (or_cases (p x) (list_any p (xs ++ ys)) h) [
      | inl here ↦ inl (ap (λ t. t || list_any p xs) here)
      | inr later ↦ elim (any-append p xs ys later) [ inl a ↦ inl (or_right (p x) (list_any p xs) a) | inr c ↦ inr c ]
    ]

record LiesIn (day : ℕ) (slices : List Slice) : Type 0 where
  place : ℕ
  slice : Slice
  is_there : slice_get slices place ≡ Some slice
  lies : list_any (λ k. eqb k day) (days_in slice) ≡ true

lies_in : (day : ℕ) (slices : List Slice) → list_any (λ k. eqb k day) (flat_map days_in slices) ≡ true → LiesIn day slices
lies_in day [] h = absurd (false≢true h)
lies_in day (s ∷ ss) h =
    elim (any-append (λ k. eqb k day) (days_in s) (flat_map days_in ss) h) [
      | inl here ↦ record { place = zero; slice = s; is_there = refl; lies = here }
      | inr later ↦ let r = lies_in day ss later in record { place = suc r.place; slice = r.slice; is_there = r.is_there; lies = r.lies }
    ]

-- a day that lies in a slice is like its first day
alike_in : (b : Contents) (s : Slice) (day : ℕ) → IsSteady b s → list_any (λ k. eqb k day) (days_in s) ≡ true → AreAlike b day s.first
alike_in b s day steady h =
    let k : (s.first ≤ day) × (day < s.first + suc (s.last - s.first)) = range_bounds day s.first (suc (s.last - s.first)) h in
    elim (cases_eq day s.first) [
      | inl e ↦ subst (λ d. AreAlike b d s.first) (sym e) (λ i d within. refl)
      | inr other ↦ steady day (and_from _ _ (le-leb s.first day k.0) (let until : day ≤ s.last = omega arith in le-leb day s.last until))
    ]

-- the slice of a day
pub record SliceOf (b : Contents) (slices : List Slice) (day : ℕ) : Type 0 where
  pub place : ℕ
  pub slice : Slice
  pub is_there : slice_get slices place ≡ Some slice
  pub alike : AreAlike b day slice.first

-- each day of a term is like the first day of one of the slices that it is parted into
pub slice_of : (b : Contents) (slices : List Slice) (first n day : ℕ) → flat_map days_in slices ≡ range_with_len first n → ((k : ℕ) (s : Slice) → slice_get slices k ≡ Some s → IsSteady b s)
    → first ≤ day → day < first + n → SliceOf b slices day
slice_of b slices first n day parts steady from until =
    let r = lies_in day slices (ap (list_any (λ k. eqb k day)) parts ∙ in_range day first n from until) in
    record { place = r.place; slice = r.slice; is_there = r.is_there; alike = alike_in b r.slice day (steady r.place r.slice r.is_there) r.lies }
