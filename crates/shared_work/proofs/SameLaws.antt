-- Two lists in parts whose parts are the same, but for what is left out of each item.
use Rattle.std.proofs.Common.{◌≡◌, Bool, false, List, [], ◌∷◌, ◌++◌, map, sym, ap, ap₂, ◌∙◌}
use Rattle.std.specs.List.{list_any}
use Rattle.std.proofs.lemmas.Bool.{or_parts}
use Rattle.std.proofs.lemmas.List.{map-append}
use Rattle.std.proofs.lemmas.List.Folds.{list_any-append}
use Rattle.pb_base.specs.InParts.{InParts}

module _ {X N M : Type 0} (P Q : X → List N → Type 0) (is_left : N → Bool) (bare : N → M)
    (same : (x : X) (own next : List N) → P x own → Q x next → list_any is_left own ≡ false → list_any is_left next ≡ false → map bare own ≡ map bare next) where
  none_left : (all own later : List N) → all ≡ own ++ later → list_any is_left all ≡ false → (list_any is_left own ≡ false) × (list_any is_left later ≡ false)
  none_left all own later is none =
      or_parts (list_any is_left own) (list_any is_left later) (sym (ap (list_any is_left) is ∙ list_any-append is_left own later) ∙ none)

  -- where no item is left in either
  pub parts_same : (xs : List X) (one two : List N) → InParts P xs one → InParts Q xs two → list_any is_left one ≡ false → list_any is_left two ≡ false
      → map bare one ≡ map bare two
  parts_same [] one two h k none also = ap (map bare) h ∙ sym (ap (map bare) k)
  parts_same (x ∷ xs) one two h k none also =
      let first = none_left one h.0 h.1 h.2 none in
      let second = none_left two k.0 k.1 k.2 also in
      ap (map bare) h.2 ∙ map-append bare h.0 h.1
      ∙ ap₂ (λ (ms ns : List M). ms ++ ns) (same x h.0 k.0 h.3 k.3 first.0 second.0) (parts_same xs h.1 k.1 h.4 k.4 first.1 second.1)
      ∙ sym (map-append bare k.0 k.1) ∙ sym (ap (map bare) k.2)
