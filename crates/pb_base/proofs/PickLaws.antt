-- The names of the codes in a set: they are distinct, they are codes, and they name the set.
use Rattle.std.proofs.Common.{◌≡◌, ℕ, zero, suc, ◌+◌, ◌<◌, Bool, true, false, ◌||◌, cond, List, [], ◌∷◌, ◌++◌, Option, Some, None, length, get_or, refl, sym, ap, subst, ◌∙◌, inl, inr, arith, ext_get_or}
use Rattle.std.proofs.lemmas.List.{length-map}
use Rattle.std.specs.List.{list_any, slice_get, AllByRecursion, IsDistinct}
use Rattle.std.specs.Option.{is_none}
use Rattle.std.specs.Cmp.Lexicographic.{nat_list_eq_equiv}
use Rattle.std.proofs.lemmas.Bool.{cases_Bool, cond_both, or_from}
use Rattle.std.proofs.lemmas.Map.Keys.{IsDistinct-head, IsDistinct-tail}
use Rattle.std.proofs.lemmas.Option.{slice_get-get_or}
use Rattle.pb_base.specs.Names.{same_name, place_in}
use Rattle.pb_base.specs.Sets.{has}
use Rattle.pb_base.specs.NamedSet.{named}
use Rattle.pb_base.proofs.Faultless.{same_self}
use Rattle.pb_base.proofs.NamedSets.{code_at_place, has-named}
use Rattle.pb_base.specs.Picked.{AreNamed, picked_from, picked}

pub either_true : (t u : Bool) → u ≡ true → (t || u) ≡ true
either_true true u h = refl
either_true false u h = h

-- what is apart from all codes is apart from those picked
apart_picked : (name : List ℕ) (i : ℕ) (x : List Bool) (cs : List (List ℕ)) → AllByRecursion (λ c. same_name name c ≡ false) cs → AllByRecursion (λ c. same_name name c ≡ false) (picked_from i x cs)
apart_picked name i x [] apart = tt
apart_picked name i x (c ∷ cs) apart = elim (cases_Bool (has x i)) [
  | inl is ↦ rw is (apart.0, apart_picked name (i + 1) x cs apart.1)
  | inr is ↦ rw is (apart_picked name (i + 1) x cs apart.1)
]

pub picked_distinct : (i : ℕ) (x : List Bool) (cs : List (List ℕ)) → IsDistinct same_name cs → IsDistinct same_name (picked_from i x cs)
unfolding IsDistinct
picked_distinct i x [] apart = tt
picked_distinct i x (c ∷ cs) apart = elim (cases_Bool (has x i)) [
  | inl is ↦ rw is (apart_picked c (i + 1) x cs apart.0, picked_distinct (i + 1) x cs apart.1)
  | inr is ↦ rw is (picked_distinct (i + 1) x cs apart.1)
]

none_of_these : (name : List ℕ) (cs : List (List ℕ)) → AllByRecursion (λ c. same_name name c ≡ false) cs → list_any (same_name name) cs ≡ false
none_of_these name [] apart = refl
none_of_these name (c ∷ cs) apart = or_from (same_name name c) (list_any (same_name name) cs) apart.0 (none_of_these name cs apart.1)

among : (c d : List ℕ) (cs : List (List ℕ)) (j : ℕ) → AllByRecursion (λ o. same_name d o ≡ false) cs → slice_get cs j ≡ Some c → same_name c d ≡ false
among c d [] j apart is = cc
among c d (e ∷ cs) zero apart is =
    let same : e ≡ c = cc in
    nat_list_eq_equiv.symm c d ∙ subst (λ (o : List ℕ). same_name d o ≡ false) same apart.0
among c d (e ∷ cs) (suc j) apart is = among c d cs j apart.1 is

-- a code is among those picked where the set has it
pub any_picked : (i : ℕ) (x : List Bool) (cs : List (List ℕ)) → IsDistinct same_name cs → (j : ℕ) (c : List ℕ) → slice_get cs j ≡ Some c
    → list_any (same_name c) (picked_from i x cs) ≡ has x (i + j)
any_picked i x [] apart j c is = cc
any_picked i x (d ∷ cs) apart zero c is =
    let same : d ≡ c = cc in
    let here : i ≡ i + 0 = omega arith in
    rw (← same, ← here)
    (elim (cases_Bool (has x i)) [
      | inl with_ ↦ rw (with_, same_self d) refl
      | inr without ↦ rw without (none_of_these d (picked_from (i + 1) x cs) (apart_picked d (i + 1) x cs (IsDistinct-head same_name d cs apart)))
    ])
any_picked i x (d ∷ cs) apart (suc j) c is =
    let there : i + 1 + j ≡ i + suc j = omega arith in
    let later : list_any (same_name c) (picked_from (i + 1) x cs) ≡ has x (i + suc j) = any_picked (i + 1) x cs (IsDistinct-tail same_name d cs apart) j c is ∙ ap (has x) there in
    let other : same_name c d ≡ false = among c d cs j (IsDistinct-head same_name d cs apart) is in
    elim (cases_Bool (has x i)) [ inl with_ ↦ rw (with_, other) later | inr without ↦ rw without later ]

-- so they name it
pub named-picked : (codes : List (List ℕ)) (x : List Bool) → IsDistinct same_name codes → (i : ℕ) → i < length codes → has x i ≡ has (named codes (picked codes x)) i
named-picked codes x apart i within =
    let c : List ℕ = get_or codes i [] in
    let there : slice_get codes i ≡ Some c = slice_get-get_or codes i [] within in
    let here : 0 + i ≡ i = omega arith in
    sym (ap (has x) here) ∙ sym (any_picked 0 x codes apart i c there) ∙ sym (has-named codes (picked codes x) c i there)

pub named_own : (codes : List (List ℕ)) (x : List Bool) → length x ≡ length codes → IsDistinct same_name codes → named codes (picked codes x) ≡ x
named_own codes x counted apart =
    let own : List (List ℕ) = picked codes x in
    let long = length-map codes (λ c. list_any (same_name c) own) in
    ext_get_or false (named codes own) x (long ∙ sym counted) (λ i within. sym (named-picked codes x apart i (omega (arith, within, long))))

named_behind : (c : List ℕ) (codes names : List (List ℕ)) → AreNamed codes names → AreNamed (c ∷ codes) names
named_behind c codes [] are = tt
named_behind c codes (name ∷ names) are = (either_true (same_name name c) (list_any (same_name name) codes) are.0, named_behind c codes names are.1)

pub picked_named : (i : ℕ) (x : List Bool) (cs : List (List ℕ)) → AreNamed cs (picked_from i x cs)
picked_named i x [] = tt
picked_named i x (c ∷ cs) = elim (cases_Bool (has x i)) [
  | inl is ↦ rw is (rw (same_self c) refl, named_behind c cs (picked_from (i + 1) x cs) (picked_named (i + 1) x cs))
  | inr is ↦ rw is (named_behind c cs (picked_from (i + 1) x cs) (picked_named (i + 1) x cs))
]

-- a name that has a place among the codes is one of them
pub code_named : (codes : List (List ℕ)) (c : List ℕ) (place : ℕ) → place_in codes c ≡ Some place → list_any (same_name c) codes ≡ true
code_named codes c place is = by codes place (code_at_place codes c place is)
  where
    by : (ds : List (List ℕ)) (k : ℕ) → slice_get ds k ≡ Some c → list_any (same_name c) ds ≡ true
    by [] k at = cc
    by (d ∷ ds) zero at = let same : d ≡ c = cc in ap (λ t. t || list_any (same_name c) ds) (ap (same_name c) same ∙ same_self c)
    by (d ∷ ds) (suc k) at = either_true (same_name c d) (list_any (same_name c) ds) (by ds k at)
