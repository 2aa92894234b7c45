-- A set shows a difference just where its names are those of a car that both books allow and that gets other parts in the second.
use Rattle.std.proofs.Common.{◌≡◌, ℕ, ◌+◌, ◌<◌, Bool, true, false, not, ◌&&◌, List, [], ◌∷◌, Option, Some, None, length, get_or, map, refl, sym, ap, ◌∙◌, inl, inr, arith}
use Rattle.std.specs.List.{list_any, list_all, slice_get, AllByRecursion, IsDistinct}
use Rattle.std.specs.Option.{option_map}
use Rattle.std.proofs.lemmas.Bool.{cases_Bool, and_parts, and_from, true≢false}
use Rattle.std.proofs.lemmas.List.{length-map, get_or_past, ext_get_or}
use Rattle.std.proofs.lemmas.Option.{slice_get-get_or, slice_get-map, get_or_from_slice_get}
use Rattle.pb_base.specs.Names.{same_name}
use Rattle.pb_base.specs.NamedSet.{named}
use Rattle.pb_base.specs.Sets.{has}
use Rattle.pb_base.proofs.NamedSets.{has-named}
use Rattle.book_model.specs.Contents.{Contents}
use Rattle.book_model.specs.Good.{is_good}
use Rattle.chosen_parts.specs.Chosen.{is_same_use, chosen}
use Rattle.chosen_parts.specs.declared.part_use.PartUse.{PartUse}
use Rattle.chosen_parts.proofs.UseLaws.{same_from_test, test_from_same}
use Rattle.book_compare.specs.Common.{IsCommon, DiffersWith, AreAlike}
use Rattle.pb_base.specs.Picked.{AreNamed, picked}
use Rattle.book_compare.specs.Numbering.{numbers_of, missing_from, added_from}
use Rattle.book_compare.specs.Shown.{same_uses, are_absent, other_set, is_common, is_other, shows}
use Rattle.book_compare.proofs.NumberLaws.{length-numbers_from, all_added, number_has, missing_absent}
use Rattle.book_compare.proofs.PickLaws.{picked_in_other}
use Rattle.pb_base.proofs.PickLaws.{picked_distinct, named-picked, picked_named, named_own}

same_uses_self : (ps : List PartUse) → same_uses ps ps ≡ true
same_uses_self [] = refl
same_uses_self (p ∷ ps) = and_from (same_uses ps ps) (is_same_use p p) (same_uses_self ps) (test_from_same p p refl)

uses_are_same : (ps qs : List PartUse) → same_uses ps qs ≡ true → ps ≡ qs
uses_are_same [] [] same = refl
uses_are_same [] (q ∷ qs) same = cc
uses_are_same (p ∷ ps) [] same = cc
uses_are_same (p ∷ ps) (q ∷ qs) same =
    let parts = and_parts (same_uses ps qs) (is_same_use p q) same in
    ap (λ (u : PartUse). u ∷ ps) (same_from_test p q parts.1) ∙ ap (λ (us : List PartUse). q ∷ us) (uses_are_same ps qs parts.0)

uses_differ : (ps qs : List PartUse) → same_uses ps qs ≡ false → ps ≡ qs → ⊥
uses_differ ps qs differ same = true≢false (sym (ap (same_uses ps) (sym same) ∙ same_uses_self ps) ∙ differ)

not_false : (t : Bool) → not t ≡ true → t ≡ false
not_false true h = sym h
not_false false h = refl

absent_by_test : (x : List Bool) (vs : List ℕ) → are_absent vs x ≡ true → AllByRecursion (λ v. has x v ≡ false) vs
absent_by_test x [] absent = tt
absent_by_test x (v ∷ vs) absent =
    let parts = and_parts (not (has x v)) (are_absent vs x) absent in (not_false (has x v) parts.0, absent_by_test x vs parts.1)

test_by_absent : (x : List Bool) (vs : List ℕ) → AllByRecursion (λ v. has x v ≡ false) vs → are_absent vs x ≡ true
test_by_absent x [] absent = refl
test_by_absent x (v ∷ vs) absent = and_from (not (has x v)) (are_absent vs x) (ap not absent.0) (test_by_absent x vs absent.1)

module _ (first second : Contents) (day : ℕ) (id : List ℕ) (x : List Bool) (counted : length x ≡ length first.codes) where
  abbrev numbers : List ℕ
  numbers = numbers_of first.codes second.codes

  abbrev y : List Bool
  y = other_set numbers x

  -- names that name the set
  module _ (names : List (List ℕ)) (are : AreNamed first.codes names) (same : named first.codes names ≡ x) where
    none_added : AllByRecursion (λ v. has x v ≡ false) (added_from (length first.codes + 1) first.codes second.codes)
    none_added =
        all_added (λ v. has x v ≡ false) (length first.codes + 1) first.codes second.codes
        (λ k. get_or_past x (length first.codes + 1 + k) false (omega (arith, counted)))

    counted_other : length (named second.codes names) ≡ length y
    counted_other =
        length-map second.codes (λ c. list_any (same_name c) names) ∙ sym (length-numbers_from (length first.codes + 1) first.codes second.codes)
        ∙ sym (length-map numbers (has x))

    has_other : (i : ℕ) (o : Option ℕ) → slice_get numbers i ≡ o → i < length numbers → has (named second.codes names) i ≡ has y i
    has_other i (Some number) is within =
        sym (number_has first.codes names x are (λ k low. ap (λ z. has z k) (sym same)) (length first.codes + 1) second.codes none_added i number is)
        ∙ sym (get_or_from_slice_get y i (has x number) false (slice_get-map (has x) numbers i ∙ ap (option_map (has x)) is))
    has_other i None is within = let there : slice_get numbers i ≡ Some (get_or numbers i 0) = slice_get-get_or numbers i 0 within in cc

    other_is : named second.codes names ≡ y
    other_is =
        ext_get_or false (named second.codes names) y counted_other
        (λ i within. has_other i (slice_get numbers i) refl (omega (arith, within, counted_other, length-map numbers (has x))))

    shown_by : IsCommon first second day names → (chosen first day id (named first.codes names) ≡ chosen second day id (named second.codes names) → ⊥) → shows first second day id x ≡ true
    shown_by common differ =
        and_from (is_common first second day x) (is_other first second day id x)
        (and_from (are_absent (missing_from 0 second.codes first.codes) x) (is_good first day x && is_good second day y)
        (test_by_absent x (missing_from 0 second.codes first.codes)
        (missing_absent second.codes names x common.in_second 0 first.codes (λ j c is.
        let here : 0 + j ≡ j = omega arith in ap (has x) here ∙ ap (λ z. has z j) (sym same) ∙ has-named first.codes names c j is)))
        (and_from (is_good first day x) (is_good second day y) (ap (is_good first day) (sym same) ∙ common.good_in_first) (ap (is_good second day) (sym other_is) ∙ common.good_in_second)))
        (elim (cases_Bool (same_uses (chosen first day id x) (chosen second day id y))) [
          | inl alike ↦
              absurd (differ (ap (chosen first day id) same ∙ uses_are_same (chosen first day id x) (chosen second day id y) alike ∙ ap (chosen second day id) (sym other_is)))
          | inr other ↦ ap not other
        ])

  module _ (apart : IsDistinct same_name first.codes) where
    abbrev own : List (List ℕ)
    own = picked first.codes x

    named_x : named first.codes own ≡ x
    named_x = named_own first.codes x counted apart

    pub shown_where_differs : DiffersWith first second day id (picked first.codes x) → shows first second day id x ≡ true
    shown_where_differs with_ = shown_by own with_.common.in_first named_x with_.common with_.differ

    pub differs_where_shown : shows first second day id x ≡ true → DiffersWith first second day id (picked first.codes x)
    differs_where_shown shown =
        let other : named second.codes own ≡ y = other_is own (picked_named 0 x first.codes) named_x in
        let parts = and_parts (is_common first second day x) (is_other first second day id x) shown in
        let common = and_parts (are_absent (missing_from 0 second.codes first.codes) x) (is_good first day x && is_good second day y) parts.0 in
        let good = and_parts (is_good first day x) (is_good second day y) common.1 in
        record {
          common = record {
            distinct = picked_distinct 0 x first.codes apart;
            in_first = picked_named 0 x first.codes;
            in_second = picked_in_other second.codes 0 x first.codes (absent_by_test x (missing_from 0 second.codes first.codes) common.0);
            good_in_first = ap (is_good first day) named_x ∙ good.0;
            good_in_second = ap (is_good second day) other ∙ good.1;
          };
          differ = λ same.
              uses_differ (chosen first day id x) (chosen second day id y) (not_false (same_uses (chosen first day id x) (chosen second day id y)) parts.1)
              (ap (chosen first day id) (sym named_x) ∙ same ∙ ap (chosen second day id) other);
        }

pub alike_where_none : (first second : Contents) (day : ℕ) (id : List ℕ) → ((x : List Bool) → length x ≡ length first.codes → shows first second day id x ≡ false) → AreAlike first second day id
alike_where_none first second day id none = λ names common.
    let x : List Bool = named first.codes names in
    let counted : length x ≡ length first.codes = length-map first.codes (λ c. list_any (same_name c) names) in
    elim (cases_Bool (same_uses (chosen first day id x) (chosen second day id (named second.codes names)))) [
      | inl same ↦ uses_are_same (chosen first day id x) (chosen second day id (named second.codes names)) same
      | inr differ ↦
          absurd (true≢false (sym (shown_by first second day id x counted names common.in_first refl common (uses_differ (chosen first day id x) (chosen second day id (named second.codes names)) differ)) ∙ none x counted))
    ]
