-- The variables of the second book's codes: which of them are true over a set of names that are all codes of the first book.
use Rattle.std.proofs.Common.{◌≡◌, ℕ, zero, suc, ◌+◌, ◌<◌, ◌≤◌, Bool, true, false, List, [], ◌∷◌, Option, Some, None, length, refl, sym, ap, subst, ◌∙◌, ◌⊎◌, inl, inr, arith}
use Rattle.std.specs.List.{slice_get, list_any, filter, AllByRecursion}
use Rattle.std.specs.Option.{option_map_or, is_none}
use Rattle.std.specs.Cmp.Lexicographic.{bytes_decides}
use Rattle.std.proofs.lemmas.Bool.{cases_Bool, cond_both, true≢false}
use Rattle.std.proofs.lemmas.Iterator.Adapters.{position_from-zero}
use Rattle.std.proofs.lemmas.Option.{slice_get_within}
use Rattle.pb_base.specs.Names.{same_name, place_in}
use Rattle.pb_base.specs.Sets.{has}
use Rattle.pb_base.specs.NamedSet.{named}
use Rattle.pb_base.proofs.NamedSets.{code_at_place, has-named}
use Rattle.chosen_parts.proofs.PlaceLaws.{none_found}
use Rattle.pb_base.specs.Picked.{AreNamed}
use Rattle.book_compare.specs.Numbering.{numbers_from, further, missing_from, added_from}

-- what is not found is none of the names
pub not_there : (codes : List (List ℕ)) (c : List ℕ) → place_in codes c ≡ None → list_any (same_name c) codes ≡ false
not_there codes c none = none_found (same_name c) 0 codes (sym (position_from-zero (same_name c) codes) ∙ none)

-- what all of these are of, and this one is not, is none of these
pub not_named : (codes names : List (List ℕ)) (c : List ℕ) → AreNamed codes names → list_any (same_name c) codes ≡ false → list_any (same_name c) names ≡ false
not_named codes [] c are out = refl
not_named codes (n ∷ names) c are out = elim (cases_Bool (same_name c n)) [
  | inl same ↦ let is = (bytes_decides c n).0 same in absurd (true≢false (sym are.0 ∙ rw is at out))
  | inr other ↦ rw other (not_named codes names c are.1 out)
]

-- it is there, or it isn't
pub cases_option : {A : Type 0} (o : Option A) → (o ≡ None) ⊎ ((x : A) × (o ≡ Some x))
cases_option None = inl refl
cases_option (Some x) = inr (x, refl)

pub length-numbers_from : (next : ℕ) (first cs : List (List ℕ)) → length (numbers_from next first cs) ≡ length cs
length-numbers_from next first [] = refl
length-numbers_from next first (c ∷ cs) = elim (cases_option (place_in first c)) [
  | inl none ↦ rw none (ap suc (length-numbers_from (next + 1) first cs))
  | inr some ↦ rw some.1 (ap suc (length-numbers_from next first cs))
]

-- where a name stands, it is in range
pub place_within : (codes : List (List ℕ)) (c : List ℕ) (place : ℕ) → place_in codes c ≡ Some place → place < length codes
place_within codes c place is = slice_get_within codes place c (code_at_place codes c place is)

-- all numbers are those of the codes of both
all_more : (m k : ℕ) → m ≤ k → (ns : List ℕ) → AllByRecursion (λ n. n < m) ns → AllByRecursion (λ n. n < k) ns
all_more m k more [] h = tt
all_more m k more (n ∷ ns) h = let below : n < m = h.0 in (omega arith, all_more m k more ns h.1)

pub numbers_below : (next : ℕ) (first cs : List (List ℕ)) → length first ≤ next → AllByRecursion (λ n. n < next + further first cs) (numbers_from next first cs)
numbers_below next first [] behind = tt
numbers_below next first (c ∷ cs) behind = elim (cases_option (place_in first c)) [
  | inl none ↦ rw none (omega arith, all_more (next + 1 + further first cs) _ (omega arith) (numbers_from (next + 1) first cs) (numbers_below (next + 1) first cs (omega arith)))
  | inr some ↦ rw some.1 (omega (arith, place_within first c some.0 some.1), numbers_below next first cs behind)
]

-- each of the variables of codes that only the second book has
pub added_at : (P : ℕ → Type 0) (next : ℕ) (first cs : List (List ℕ)) → AllByRecursion P (added_from next first cs) → (k : ℕ) → k < further first cs → P (next + k)
added_at P next first [] h k within = absurd (omega arith)
added_at P next first (c ∷ cs) h k within = elim (cases_Bool (is_none (place_in first c))) [
  | inl none ↦ first_or k (rw none at h) (rw none at within) (λ all. added_at P (next + 1) first cs all)
  | inr some ↦ added_at P next first cs (rw some at h) k (rw some at within)
]
  where
    first_or : (i : ℕ) → AllByRecursion P (next ∷ added_from (next + 1) first cs) → i < suc (further first cs)
        → (AllByRecursion P (added_from (next + 1) first cs) → (j : ℕ) → j < further first cs → P (next + 1 + j)) → P (next + i)
    first_or zero all low later = subst P (omega arith) all.0
    first_or (suc i) all low later = subst P (let e : next + 1 + i ≡ next + suc i = omega arith in e) (later all.1 i (omega arith))

pub all_added : (P : ℕ → Type 0) (next : ℕ) (first cs : List (List ℕ)) → ((k : ℕ) → P (next + k)) → AllByRecursion P (added_from next first cs)
all_added P next first [] each = tt
all_added P next first (c ∷ cs) each =
    cond_both (is_none (place_in first c)) _ _ (AllByRecursion P)
    (λ _. (subst P (omega arith) (each 0), all_added P (next + 1) first cs (λ k. subst P (omega arith) (each (suc k)))))
    (λ _. all_added P next first cs each)

-- over a set that has the named codes of the first book, and none that only the second has, each code of the second is present
-- where it is named
module _ (first names : List (List ℕ)) (z : List Bool) (are : AreNamed first names) (same : (i : ℕ) → i < length first → has z i ≡ has (named first names) i) where
  shared_at : (c : List ℕ) (place : ℕ) → place_in first c ≡ Some place → has z place ≡ list_any (same_name c) names
  shared_at c place is = same place (place_within first c place is) ∙ has-named first names c place (code_at_place first c place is)

  pub number_has : (next : ℕ) (cs : List (List ℕ)) → AllByRecursion (λ v. has z v ≡ false) (added_from next first cs) → (j number : ℕ)
      → slice_get (numbers_from next first cs) j ≡ Some number → has z number ≡ has (named cs names) j
  number_has next [] gone j number is = cc
  number_has next (c ∷ cs) gone zero number is = elim (cases_option (place_in first c)) [
    | inl none ↦
        let e = rw none at is in let all = rw none at gone in
        ap (has z) (let own : number ≡ next = cc in own) ∙ all.0 ∙ sym (not_named first names c are (not_there first c none))
    | inr some ↦ let e = rw some.1 at is in ap (has z) (let own : number ≡ some.0 = cc in own) ∙ shared_at c some.0 some.1
  ]
  number_has next (c ∷ cs) gone (suc j) number is = elim (cases_option (place_in first c)) [
    | inl none ↦ let all = rw none at gone in number_has (next + 1) cs all.1 j number (rw none at is)
    | inr some ↦ number_has next cs (rw some.1 at gone) j number (rw some.1 at is)
  ]

-- the codes of the first book that the second lacks are absent where all names are the second's
pub missing_absent : (second names : List (List ℕ)) (z : List Bool) → AreNamed second names → (i : ℕ) (cs : List (List ℕ))
    → ((j : ℕ) (c : List ℕ) → slice_get cs j ≡ Some c → has z (i + j) ≡ list_any (same_name c) names) → AllByRecursion (λ v. has z v ≡ false) (missing_from i second cs)
missing_absent second names z are i [] each = tt
missing_absent second names z are i (c ∷ cs) each =
    let later = missing_absent second names z are (i + 1) cs (λ j d is. let e : i + 1 + j ≡ i + suc j = omega arith in ap (has z) e ∙ each (suc j) d is) in
    elim (cases_option (place_in second c)) [
      | inl none ↦ let here : i + 0 ≡ i = omega arith in rw none (sym (ap (has z) here) ∙ each 0 c refl ∙ not_named second names c are (not_there second c none), later)
      | inr some ↦ rw some.1 later
    ]

-- all of these variables are below m
pub missing_below : (m i : ℕ) (second cs : List (List ℕ)) → i + length cs ≤ m → AllByRecursion (λ v. v < m) (missing_from i second cs)
missing_below m i second [] low = tt
missing_below m i second (c ∷ cs) low =
    let later = missing_below m (i + 1) second cs (omega arith) in
    cond_both (is_none (place_in second c)) _ _ (AllByRecursion (λ v. v < m)) (λ _. (omega arith, later)) (λ _. later)

pub added_below : (next : ℕ) (first cs : List (List ℕ)) → AllByRecursion (λ v. v < next + further first cs) (added_from next first cs)
added_below next first [] = tt
added_below next first (c ∷ cs) = elim (cases_Bool (is_none (place_in first c))) [
  | inl none ↦ rw none (omega arith, all_more (next + 1 + further first cs) _ (omega arith) (added_from (next + 1) first cs) (added_below (next + 1) first cs))
  | inr some ↦ rw some (added_below next first cs)
]
