-- Two lists of positions' parts, one position after the other.
use Rattle.std.proofs.Common.{◌≡◌, ℕ, ◌+◌, ◌<◌, true, ◌&&◌, List, ◌∷◌, length, get_or, drop, map, sym, ap, ◌∙◌}
use Rattle.std.proofs.lemmas.List.{drop_more}
use Rattle.book_model.specs.declared.record.Position.{Position}
use Rattle.chosen_parts.specs.declared.part_use.PartUse.{PartUse}
use Rattle.order_days.specs.Same.{are_same_uses, are_same_parts}

module _ (f g : Position → List PartUse) (ps : List Position) (i : ℕ) (p : Position) (inside : i < length ps) (is : p ≡ get_or ps i p) where
  rest : drop i ps ≡ p ∷ drop (i + 1) ps
  rest = drop_more ps i p inside ∙ ap (λ (q : Position). q ∷ drop (i + 1) ps) (sym is)

  pub parts_more : are_same_uses (f p) (g p) ≡ true → are_same_parts (map f (drop i ps)) (map g (drop i ps)) ≡ are_same_parts (map f (drop (i + 1) ps)) (map g (drop (i + 1) ps))
  parts_more same =
      ap (λ (qs : List Position). are_same_parts (map f qs) (map g qs)) rest
      ∙ ap (λ t. t && are_same_parts (map f (drop (i + 1) ps)) (map g (drop (i + 1) ps))) same
