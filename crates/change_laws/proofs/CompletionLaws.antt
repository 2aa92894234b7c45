-- Two books with the same firing sequence complete the codes of some names to the same names.
use Rattle.std.proofs.Common.{◌≡◌, ◌⊎◌, ℕ, zero, suc, ◌+◌, ◌<◌, ◌≤◌, Bool, true, false, not, ◌&&◌, ◌||◌, List, [], ◌∷◌, ◌++◌, Some, length, get_or, sym, ap, subst, ◌∙◌, inl, inr, arith}
use Rattle.std.specs.Prelude.{count_by}
use Rattle.std.specs.List.{slice_get, list_any, AllByRecursion, IsDistinct}
use Rattle.std.specs.Option.{option_map_or}
use Rattle.std.specs.Cmp.Lexicographic.{nat_list_eq_equiv, bytes_decides}
use Rattle.std.proofs.lemmas.Bool.{and_parts, not-true, cases_Bool}
use Rattle.std.proofs.lemmas.List.{length-map}
use Rattle.std.proofs.lemmas.Map.Keys.{IsDistinct-push}
use Rattle.std.proofs.lemmas.Option.{slice_get_within, get_or_from_slice_get}
use Rattle.pb_base.specs.NamedSet.{named}
use Rattle.pb_base.specs.Names.{same_name}
use Rattle.pb_base.specs.Rule.{holds}
use Rattle.pb_base.specs.Sets.{has}
use Rattle.pb_base.proofs.NamedSets.{has-named, named_by_more}
use Rattle.book_model.specs.Contents.{Contents}
use Rattle.book_model.specs.declared.record.Supplement.{Supplement}
use Rattle.supplement.specs.Completion.{first_firing, with_code_of, completion_by, completion_of}
use Rattle.supplement.specs.declared.firing.Firing.{Firing}
use Rattle.supplement.proofs.FirstFiring.{firing_of, first_firing-is}
use Rattle.supplement.proofs.Laws.{completion-none, completion-firing, fewer_absent}
use Rattle.pb_base.specs.Picked.{AreNamed}
use Rattle.firing_sequence.specs.Sequence.{firing_order, same_at, same_sequences}
use Rattle.change_laws.proofs.AlikeLaws.{matches_alike, one_code, same_rules}
use Rattle.change_laws.proofs.RankLaws.{BothFirst, FirstOf, comes_first, firing_is, first_of_both, matches, no_firing}

abbrev absent_in : Contents → List (List ℕ) → ℕ
absent_in b names = count_by not (named b.codes names)

abbrev completed_set : Contents → ℕ → List (List ℕ) → List Bool
completed_set b day names = (completion_of b day (named b.codes names)).set

-- the first rule adds its code, which was absent
record Fired (b : Contents) (day : ℕ) (names : List (List ℕ)) (name : List ℕ) : Type 0 where
  same : completed_set b day names ≡ completed_set b day (names ++ name ∷ [])
  unnamed : list_any (same_name name) names ≡ false
  fewer : absent_in b names ≡ suc (absent_in b (names ++ name ∷ []))

fired : (b : Contents) (day : ℕ) (names : List (List ℕ)) (p : ℕ) (s : Supplement) (name : List ℕ) → IsDistinct same_name b.codes → slice_get b.supplements p ≡ Some s
    → slice_get b.codes s.code ≡ Some name → FirstOf b.supplements (matches b.supplements (named b.codes names)) (firing_order b day) p → Fired b day names name
fired b day names p s name apart at coded h =
    let x : List Bool = named b.codes names in
    let rule : Supplement = get_or b.supplements p s in
    let is : rule ≡ s = get_or_from_slice_get b.supplements p s s at in
    let code : rule.code ≡ s.code = ap (λ (r : Supplement). r.code) is in
    let f : Firing = firing_of (0 + p) rule in
    let fire : first_firing b.supplements day x ≡ Some f =
    first_firing-is 0 day x b.supplements p s (comes_first b.supplements day x (firing_order b day) (firing_is b day) p s h) in
    let counted : length x ≡ length b.codes = length-map b.codes (λ c. list_any (same_name c) names) in
    let inside : s.code < length b.codes = slice_get_within b.codes s.code name coded in
    let within : s.code < length x = omega (arith, counted, inside) in
    let meets : (holds s.rule x && not (has x s.code)) ≡ true = sym (ap (λ o. option_map_or (λ (t : Supplement). holds t.rule x && not (has x t.code)) o false) at) ∙ h.on in
    let absent : has x s.code ≡ false = not-true (has x s.code) (and_parts (holds s.rule x) (not (has x s.code)) meets).1 in
    let more : with_code_of f x ≡ named b.codes (names ++ name ∷ []) = ap (λ c. with_code_of (record { rank = f.rank; rule = f.rule; code = c }) x) code ∙ named_by_more b.codes names name s.code apart coded in
    record {
      same =
          ap (λ c. c.set) (completion-firing b.supplements day x f fire (subst (λ c. c < length x) (sym code) within) (ap (has x) code ∙ absent))
          ∙ ap (λ (y : List Bool). (completion_by b.supplements day y).set) more;
      unnamed = sym (has-named b.codes names name s.code coded) ∙ absent;
      fewer = fewer_absent x s.code within absent ∙ ap (λ (y : List Bool). suc (count_by not y)) (named_by_more b.codes names name s.code apart coded);
    }

any_at : (codes : List (List ℕ)) (k : ℕ) (name : List ℕ) → slice_get codes k ≡ Some name → list_any (same_name name) codes ≡ true
any_at [] k name at = cc
any_at (c ∷ codes) zero name at = let same : c ≡ name = cc in ap (λ t. t || list_any (same_name name) codes) ((bytes_decides name c).1 (sym same))
any_at (c ∷ codes) (suc k) name at = elim (cases_Bool (same_name name c)) [
  | inl yes_ ↦ ap (λ t. t || list_any (same_name name) codes) yes_
  | inr no_ ↦ ap (λ t. t || list_any (same_name name) codes) no_ ∙ any_at codes k name at
]

named_push : (codes names : List (List ℕ)) (name : List ℕ) → AreNamed codes names → list_any (same_name name) codes ≡ true → AreNamed codes (names ++ name ∷ [])
named_push codes [] name are is = (is, tt)
named_push codes (n ∷ names) name are is = (are.0, named_push codes names name are.1 is)

pub record CompletesAlike (first second : Contents) (day : ℕ) (names : List (List ℕ)) : Type 0 where
  pub completed : List (List ℕ)
  pub distinct : IsDistinct same_name completed
  pub in_first : AreNamed first.codes completed
  pub in_second : AreNamed second.codes completed
  pub by_first : completed_set first day names ≡ named first.codes completed
  pub by_second : completed_set second day names ≡ named second.codes completed

module _ (first second : Contents) (day : ℕ) (apart : IsDistinct same_name first.codes) (others_apart : IsDistinct same_name second.codes) (same : same_sequences first second day ≡ true) where
  abbrev first_test : List (List ℕ) → ℕ → Bool
  first_test names = matches first.supplements (named first.codes names)

  abbrev second_test : List (List ℕ) → ℕ → Bool
  second_test names = matches second.supplements (named second.codes names)

  abbrev NoneFires : List (List ℕ) → Type 0
  NoneFires names = AllByRecursion (λ p. first_test names p ≡ false) (firing_order first day) × AllByRecursion (λ p. second_test names p ≡ false) (firing_order second day)

  abbrev BothFire : List (List ℕ) → Type 0
  BothFire names = BothFirst first.supplements second.supplements (same_at first second) (first_test names) (second_test names) (firing_order first day) (firing_order second day)

  either_way : (names : List (List ℕ)) → NoneFires names ⊎ BothFire names
  either_way names =
      first_of_both first.supplements second.supplements (same_at first second) (first_test names) (second_test names) (λ p q is. matches_alike first second names p q is)
      (firing_order first day) (firing_order second day) (firing_is first day).sorted (firing_is second day).sorted same

  -- the names are distinct codes of both books
  abbrev AreBoth : List (List ℕ) → Type 0
  AreBoth names = IsDistinct same_name names × AreNamed first.codes names × AreNamed second.codes names

  ended : (names : List (List ℕ)) → AreBoth names → NoneFires names → CompletesAlike first second day names
  ended names are none = record {
    completed = names;
    distinct = are.0;
    in_first = are.1;
    in_second = are.2;
    by_first =
        ap (λ c. c.set) (completion-none first.supplements day (named first.codes names)
        (no_firing first.supplements day (named first.codes names) (firing_order first day) (firing_is first day) none.0));
    by_second =
        ap (λ c. c.set) (completion-none second.supplements day (named second.codes names)
        (no_firing second.supplements day (named second.codes names) (firing_order second day) (firing_is second day) none.1));
  }

  abbrev Later : List (List ℕ) → Type 0
  Later names = (name : List ℕ) → absent_in first names ≡ suc (absent_in first (names ++ name ∷ [])) → AreBoth (names ++ name ∷ []) → CompletesAlike first second day (names ++ name ∷ [])

  step : (names : List (List ℕ)) → AreBoth names → BothFire names → Later names → CompletesAlike first second day names
  step names are both later =
      let rules = same_rules first second both.place both.other_place both.same in
      let one = one_code first second both.place both.other_place rules in
      let name : List ℕ = one.name in
      let own : Fired first day names name = fired first day names both.place rules.own name apart rules.first_has one.first both.first in
      let other : Fired second day names name = fired second day names both.other_place rules.other name others_apart rules.second_has one.second both.second in
      let more : AreBoth (names ++ name ∷ []) = (
        IsDistinct-push nat_list_eq_equiv names name are.0 own.unnamed,
        named_push first.codes names name are.1 (any_at first.codes rules.own.code name one.first),
        named_push second.codes names name are.2 (any_at second.codes rules.other.code name one.second),
      ) in
      let rest : CompletesAlike first second day (names ++ name ∷ []) = later name own.fewer more in
      record {
        completed = rest.completed;
        distinct = rest.distinct;
        in_first = rest.in_first;
        in_second = rest.in_second;
        by_first = own.same ∙ rest.by_first;
        by_second = other.same ∙ rest.by_second;
      }

  pub completes_alike : (n : ℕ) (names : List (List ℕ)) → absent_in first names ≤ n → AreBoth names → CompletesAlike first second day names
  completes_alike zero names few are = elim (either_way names) [
    | inl none ↦ ended names are none
    | inr both ↦ step names are both (λ name fewer more. absurd (omega (arith, few, fewer)))
  ]
  completes_alike (suc n) names few are = elim (either_way names) [
    | inl none ↦ ended names are none
    | inr both ↦ step names are both (λ name fewer more. completes_alike n (names ++ name ∷ []) (omega (arith, few, fewer)) more)
  ]
