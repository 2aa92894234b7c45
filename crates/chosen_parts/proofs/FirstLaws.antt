-- A loop over the variants of a position, up to the first that is selected.
use Rattle.std.proofs.Common.{◌≡◌, ℕ, suc, ◌+◌, ◌<◌, Bool, true, false, List, [], ◌∷◌, Some, length, get_or, drop, map, refl, sym, ap, ◌∙◌, arith, drop-cons}
use Rattle.std.specs.List.{filter, slice_get}
use Rattle.std.specs.Option.{option_map_or}
use Rattle.std.proofs.lemmas.Bool.{cond-true, cond-false}
use Rattle.std.proofs.lemmas.Option.{slice_get-get_or}
use Rattle.book_model.specs.Contents.{Contents}
use Rattle.book_model.specs.Parts.{is_selected, is_selected_at}
use Rattle.book_model.specs.declared.record.Variant.{Variant}
use Rattle.chosen_parts.specs.Chosen.{use_of, part_use}

module _ (b : Contents) (day : ℕ) (x : List Bool) (places : List ℕ) (i : ℕ) (v : Variant) (inside : i < length places) (within : get_or places i 0 < length b.variants) (is : v ≡ get_or b.variants (get_or places i 0) v) where
  abbrev at : ℕ
  at = get_or places i 0

  there : slice_get b.variants at ≡ Some v
  there = slice_get-get_or b.variants at v within ∙ ap (λ (w : Variant). Some w) (sym is)

  rest : drop i places ≡ at ∷ drop (i + 1) places
  rest = drop-cons places i 0 inside ∙ ap (λ (k : ℕ). at ∷ drop k places) (let e : suc i ≡ i + 1 = omega arith in e)

  pub first_taken : is_selected day x v ≡ true → slice_get (map (part_use b) (filter (is_selected_at b day x) (drop i places))) 0 ≡ Some (use_of v)
  first_taken taken =
      let tests : is_selected_at b day x at ≡ true = ap (λ o. option_map_or (is_selected day x) o false) there ∙ taken in
      ap (λ (ps : List ℕ). slice_get (map (part_use b) (filter (is_selected_at b day x) ps)) 0) rest
      ∙ ap (λ (ps : List ℕ). slice_get (map (part_use b) ps) 0) (cond-true (is_selected_at b day x at) (at ∷ filter (is_selected_at b day x) (drop (i + 1) places)) (filter (is_selected_at b day x) (drop (i + 1) places)) tests)
      ∙ ap (λ o. Some (option_map_or use_of o (record { part = []; quantity = 0 }))) there

  pub passed_over : is_selected day x v ≡ false → filter (is_selected_at b day x) (drop i places) ≡ filter (is_selected_at b day x) (drop (i + 1) places)
  passed_over passed =
      let tests : is_selected_at b day x at ≡ false = ap (λ o. option_map_or (is_selected day x) o false) there ∙ passed in
      ap (filter (is_selected_at b day x)) rest
      ∙ cond-false (is_selected_at b day x at) (at ∷ filter (is_selected_at b day x) (drop (i + 1) places)) (filter (is_selected_at b day x) (drop (i + 1) places)) tests
