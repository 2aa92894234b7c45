-- Codes by their places: their names are distinct where the places are, and name just these codes.
use Rattle.std.proofs.Common.{◌≡◌, ℕ, zero, suc, ◌+◌, ◌<◌, ◌≤◌, Bool, true, false, not, cond, ◌&&◌, ◌||◌, ◌==◌, List, [], ◌∷◌, ◌++◌, length, refl, sym, ap, ap₂, subst, ◌∙◌, inl, inr, arith, true≢false}
use Rattle.std.specs.List.{list_any, AllByRecursion, IsDistinct}
use Rattle.std.specs.Cmp.Lexicographic.{nat_list_eq_equiv}
use Rattle.std.proofs.lemmas.Bool.{cases_Bool, eqb-true, eq-eqb, false_from_ne_true, or_from, or_parts}
use Rattle.std.proofs.lemmas.Option.{slice_get-get_or}
use Rattle.pb_base.specs.Names.{same_name}
use Rattle.pb_base.specs.NamedSet.{named}
use Rattle.pb_base.specs.Places.{name_at, names_at}
use Rattle.pb_base.specs.Sets.{has}
use Rattle.pb_base.proofs.Faultless.{same_self}
use Rattle.pb_base.proofs.NamedSets.{has-named}
use Rattle.blame.specs.Entries.{Among}
use Rattle.clausify.proofs.ListLaws.{all-append}
use Rattle.order_repair.specs.Places.{is_kept, others_from}

-- ---- numbers

-- what two numbers are not, their test says
not_same : (p q : ℕ) → (p == q) ≡ false → p ≡ q → ⊥
not_same p q test same = true≢false (sym (eq-eqb p q same) ∙ test)

same_not : (p q : ℕ) → (p ≡ q → ⊥) → (p == q) ≡ false
same_not p q differ = false_from_ne_true (p == q) (λ test. differ (eqb-true p q test))

abbrev pub DiffersFrom : ℕ → ℕ → Type 0
DiffersFrom p q = (p == q) ≡ false

abbrev pub AreDistinct : List ℕ → Type 0
AreDistinct ps = IsDistinct (λ p q. p == q) ps

-- ---- names at places

abbrev pub AreWithin : List (List ℕ) → List ℕ → Type 0
AreWithin codes ps = AllByRecursion (λ p. p < length codes) ps

all_at : (P : List ℕ → Type 0) (codes : List (List ℕ)) (p : ℕ) → p < length codes → AllByRecursion P codes → P (name_at codes p)
all_at P [] p within all = absurd (omega arith)
all_at P (c ∷ codes) zero within all = all.0
all_at P (c ∷ codes) (suc p) within all = all_at P codes p (omega arith) all.1

-- codes at two places have two names
differ_at : (codes : List (List ℕ)) (c p : ℕ) → IsDistinct same_name codes → c < length codes → p < length codes → (c ≡ p → ⊥)
    → same_name (name_at codes c) (name_at codes p) ≡ false
unfolding IsDistinct
differ_at [] c p apart c_in p_in differ = absurd (omega arith)
differ_at (d ∷ codes) zero zero apart c_in p_in differ = absurd (differ refl)
differ_at (d ∷ codes) zero (suc p) apart c_in p_in differ = all_at (λ (n : List ℕ). same_name d n ≡ false) codes p (omega arith) apart.0
differ_at (d ∷ codes) (suc c) zero apart c_in p_in differ =
    nat_list_eq_equiv.symm (name_at codes c) d ∙ all_at (λ (n : List ℕ). same_name d n ≡ false) codes c (omega arith) apart.0
differ_at (d ∷ codes) (suc c) (suc p) apart c_in p_in differ =
    differ_at codes c p apart.1 (omega arith) (omega arith) (λ same. differ (ap (λ (n : ℕ). suc n) same))

same_at : (codes : List (List ℕ)) (c p : ℕ) → IsDistinct same_name codes → c < length codes → p < length codes
    → same_name (name_at codes c) (name_at codes p) ≡ (p == c)
same_at codes c p apart c_in p_in =
    elim (cases_Bool (p == c)) [
      | inl same ↦ ap (λ (q : ℕ). same_name (name_at codes c) (name_at codes q)) (eqb-true p c same) ∙ same_self (name_at codes c) ∙ sym same
      | inr other ↦ differ_at codes c p apart c_in p_in (λ same. not_same p c other (sym same)) ∙ sym other
    ]

-- the names at places have the name of a code just where the places have that of the code
any_at : (codes : List (List ℕ)) (c : ℕ) (ps : List ℕ) → IsDistinct same_name codes → c < length codes → AreWithin codes ps
    → list_any (same_name (name_at codes c)) (names_at codes ps) ≡ is_kept ps c
any_at codes c [] apart c_in within = refl
any_at codes c (p ∷ ps) apart c_in within =
    ap₂ (λ (s t : Bool). s || t) (same_at codes c p apart c_in within.0) (any_at codes c ps apart c_in within.1)

apart_at : (codes : List (List ℕ)) (p : ℕ) (ps : List ℕ) → IsDistinct same_name codes → p < length codes → AreWithin codes ps → AllByRecursion (DiffersFrom p) ps
    → AllByRecursion (λ n. same_name (name_at codes p) n ≡ false) (names_at codes ps)
apart_at codes p [] apart p_in within differ = tt
apart_at codes p (q ∷ ps) apart p_in within differ =
    (differ_at codes p q apart p_in within.0 (not_same p q differ.0), apart_at codes p ps apart p_in within.1 differ.1)

pub distinct_at : (codes : List (List ℕ)) (ps : List ℕ) → IsDistinct same_name codes → AreWithin codes ps → AreDistinct ps → IsDistinct same_name (names_at codes ps)
unfolding IsDistinct
distinct_at codes [] apart within distinct = tt
distinct_at codes (p ∷ ps) apart within distinct =
    (apart_at codes p ps apart within.0 within.1 distinct.0, distinct_at codes ps apart within.1 distinct.1)

known_at : (codes : List (List ℕ)) (p : ℕ) → p < length codes → list_any (same_name (name_at codes p)) codes ≡ true
known_at [] p p_in = absurd (omega arith)
known_at (c ∷ codes) zero p_in = ap (λ (t : Bool). t || list_any (same_name c) codes) (same_self c)
known_at (c ∷ codes) (suc p) p_in = or_second (same_name (name_at codes p) c) (list_any (same_name (name_at codes p)) codes) (known_at codes p (omega arith))
  where
    or_second : (s t : Bool) → t ≡ true → (s || t) ≡ true
    or_second true t h = refl
    or_second false t h = h

pub all_known : (codes : List (List ℕ)) (ps : List ℕ) → AreWithin codes ps → AllByRecursion (λ n. list_any (same_name n) codes ≡ true) (names_at codes ps)
all_known codes [] within = tt
all_known codes (p ∷ ps) within = (known_at codes p within.0, all_known codes ps within.1)

-- the set that the names at places name has the codes at these places
pub has_at : (codes : List (List ℕ)) (ps : List ℕ) (c : ℕ) → IsDistinct same_name codes → c < length codes → AreWithin codes ps
    → has (named codes (names_at codes ps)) c ≡ is_kept ps c
has_at codes ps c apart c_in within =
    has-named codes (names_at codes ps) (name_at codes c) c (slice_get-get_or codes c [] c_in) ∙ any_at codes c ps apart c_in within

-- ---- the other codes of a set

-- a code that comes later, and isn't kept
pub record IsOther (kept : List ℕ) (first end o : ℕ) : Type 0 where
  pub later : first ≤ o
  pub within : o < end
  pub other : is_kept kept o ≡ false

later_others : (kept ps : List ℕ) (i end : ℕ) → AllByRecursion (IsOther kept (suc i) end) ps → AllByRecursion (IsOther kept i end) ps
later_others kept [] i end all = tt
later_others kept (p ∷ ps) i end all =
    (record { later = omega (arith, all.0.later); within = all.0.within; other = all.0.other }, later_others kept ps i end all.1)

pub all_other : (i end : ℕ) (x : List Bool) (kept : List ℕ) → end ≡ i + length x → AllByRecursion (IsOther kept i end) (others_from i x kept)
all_other i end [] kept ends = tt
all_other i end (there ∷ x) kept ends =
    let rest = later_others kept (others_from (suc i) x kept) i end (all_other (suc i) end x kept (omega arith)) in
    go there (is_kept kept i) refl rest
  where
    go : (t k : Bool) → is_kept kept i ≡ k → AllByRecursion (IsOther kept i end) (others_from (suc i) x kept)
        → AllByRecursion (IsOther kept i end) (cond (t && not k) (i ∷ others_from (suc i) x kept) (others_from (suc i) x kept))
    go true false other rest = (record { later = omega arith; within = omega arith; other = other }, rest)
    go true true other rest = rest
    go false k other rest = rest

-- where a pass over a set leaves a code out, or takes it
by_taken : (P : List ℕ → Type 0) (t : Bool) (ps qs : List ℕ) → (t ≡ true → P ps) → (t ≡ false → P qs) → P (cond t ps qs)
by_taken P true ps qs taken passed = taken refl
by_taken P false ps qs taken passed = passed refl

first_apart : (kept ps : List ℕ) (i end : ℕ) → AllByRecursion (IsOther kept (suc i) end) ps → AllByRecursion (DiffersFrom i) ps
first_apart kept [] i end all = tt
first_apart kept (p ∷ ps) i end all = (same_not i p (λ same. let h = all.0.later in omega arith), first_apart kept ps i end all.1)

pub others_distinct : (i end : ℕ) (x : List Bool) (kept : List ℕ) → end ≡ i + length x → AreDistinct (others_from i x kept)
unfolding IsDistinct
others_distinct i end [] kept ends = tt
others_distinct i end (there ∷ x) kept ends =
    let rest : AreDistinct (others_from (suc i) x kept) = others_distinct (suc i) end x kept (omega arith) in
    let apart = first_apart kept (others_from (suc i) x kept) i end (all_other (suc i) end x kept (omega arith)) in
    by_taken AreDistinct (there && not (is_kept kept i)) (i ∷ others_from (suc i) x kept) (others_from (suc i) x kept) (λ taken. (apart, rest)) (λ passed. rest)

kept_first : (p i : ℕ) (ps : List ℕ) → p ≡ i → is_kept (p ∷ ps) i ≡ true
kept_first p i ps same = ap (λ (t : Bool). t || is_kept ps i) (eq-eqb p i same)

none_kept : (kept ps : List ℕ) (i end : ℕ) → AllByRecursion (IsOther kept (suc i) end) ps → is_kept ps i ≡ false
none_kept kept [] i end all = refl
none_kept kept (p ∷ ps) i end all =
    or_from (p == i) (is_kept ps i) (same_not p i (λ same. let h = all.0.later in omega arith)) (none_kept kept ps i end all.1)

-- the other codes are those of the set that aren't kept
pub has_others : (i end : ℕ) (x : List Bool) (kept : List ℕ) (j : ℕ) → end ≡ i + length x → j < length x
    → is_kept (others_from i x kept) (i + j) ≡ (has x j && not (is_kept kept (i + j)))
has_others i end [] kept j ends within = absurd (omega arith)
has_others i end (there ∷ x) kept zero ends within =
    let here : i + 0 ≡ i = omega arith in
    subst (λ (k : ℕ). is_kept (others_from i (there ∷ x) kept) k ≡ (there && not (is_kept kept k))) (sym here)
    (go (there && not (is_kept kept i)) refl)
  where
    later : is_kept (others_from (suc i) x kept) i ≡ false
    later = none_kept kept (others_from (suc i) x kept) i end (all_other (suc i) end x kept (omega arith))

    go : (t : Bool) → (there && not (is_kept kept i)) ≡ t → is_kept (cond t (i ∷ others_from (suc i) x kept) (others_from (suc i) x kept)) i ≡ t
    go true is = kept_first i i (others_from (suc i) x kept) refl
    go false is = later
has_others i end (there ∷ x) kept (suc j) ends within =
    let there_is : suc i + j ≡ i + suc j = omega arith in
    subst (λ (k : ℕ). is_kept (others_from i (there ∷ x) kept) k ≡ (has x j && not (is_kept kept k))) there_is
    (go (there && not (is_kept kept i)) (has_others (suc i) end x kept j (omega arith) (omega arith)))
  where
    go : (t : Bool) → is_kept (others_from (suc i) x kept) (suc i + j) ≡ (has x j && not (is_kept kept (suc i + j)))
        → is_kept (cond t (i ∷ others_from (suc i) x kept) (others_from (suc i) x kept)) (suc i + j) ≡ (has x j && not (is_kept kept (suc i + j)))
    go true rest = ap (λ (t : Bool). t || is_kept (others_from (suc i) x kept) (suc i + j)) (same_not i (suc i + j) (λ same. omega arith)) ∙ rest
    go false rest = rest

-- ---- both

kept_apart : (k : ℕ) (kept others : List ℕ) (end : ℕ) → AllByRecursion (IsOther (k ∷ kept) 0 end) others → AllByRecursion (DiffersFrom k) others
kept_apart k kept [] end all = tt
kept_apart k kept (o ∷ others) end all = ((or_parts (k == o) (is_kept kept o) all.0.other).0, kept_apart k kept others end all.1)

less_kept : (k : ℕ) (kept others : List ℕ) (end : ℕ) → AllByRecursion (IsOther (k ∷ kept) 0 end) others → AllByRecursion (IsOther kept 0 end) others
less_kept k kept [] end all = tt
less_kept k kept (o ∷ others) end all =
    (record { later = all.0.later; within = all.0.within; other = (or_parts (k == o) (is_kept kept o) all.0.other).1 }, less_kept k kept others end all.1)

pub both_distinct : (kept others : List ℕ) (end : ℕ) → AreDistinct kept → AreDistinct others → AllByRecursion (IsOther kept 0 end) others → AreDistinct (kept ++ others)
unfolding IsDistinct
both_distinct [] others end kept_apart_ others_apart all = others_apart
both_distinct (k ∷ kept) others end distinct others_apart all =
    (all-append (DiffersFrom k) kept others distinct.0 (kept_apart k kept others end all), both_distinct kept others end distinct.1 others_apart (less_kept k kept others end all))

-- the others stand in record order
pub others_among : (codes rest : List (List ℕ)) (i : ℕ) (x : List Bool) (kept : List ℕ) → ((j : ℕ) → j < length rest → name_at codes (i + j) ≡ name_at rest j)
    → length x ≡ length rest → Among rest (names_at codes (others_from i x kept))
others_among codes [] i [] kept names counted = refl
others_among codes [] i (there ∷ x) kept names counted = absurd (omega arith)
others_among codes (name ∷ rest) i [] kept names counted = absurd (omega arith)
others_among codes (name ∷ rest) i (there ∷ x) kept names counted =
    let later : Among rest (names_at codes (others_from (suc i) x kept)) =
    others_among codes rest (suc i) x kept
    (λ j low. let at : suc i + j ≡ i + suc j = omega arith in ap (name_at codes) at ∙ names (suc j) (omega arith)) (omega arith) in
    let at : i ≡ i + 0 = omega arith in
    let first : name_at codes i ≡ name = ap (name_at codes) at ∙ names 0 (omega arith) in
    by_taken (λ (ps : List ℕ). Among (name ∷ rest) (names_at codes ps)) (there && not (is_kept kept i)) (i ∷ others_from (suc i) x kept) (others_from (suc i) x kept)
    (λ taken. inr (names_at codes (others_from (suc i) x kept), ap (λ (n : List ℕ). n ∷ names_at codes (others_from (suc i) x kept)) first, later))
    (λ passed. inl later)
