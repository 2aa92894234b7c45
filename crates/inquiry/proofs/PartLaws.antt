-- Lists in parts that grow by several parts.
use Rattle.std.proofs.Common.{◌≡◌, ℕ, ◌+◌, ◌-◌, ◌≤◌, ◌<◌, List, [], ◌∷◌, ◌++◌, length, take, drop, get_or, sym, ap, subst, ◌∙◌, arith, append_assoc, take-add}
use Rattle.std.proofs.lemmas.List.{take_more}
use Rattle.pb_base.specs.InParts.{InParts}
use Rattle.pb_base.proofs.PartLaws.{parts_more}

module _ {X N : Type 0} (IsPart : X → List N → Type 0) where
  pub parts-append : (xs ys : List X) (ns ms : List N) → InParts IsPart xs ns → InParts IsPart ys ms → InParts IsPart (xs ++ ys) (ns ++ ms)
  parts-append [] ys ns ms h k = subst (λ (ls : List N). InParts IsPart ys (ls ++ ms)) (sym h) k
  parts-append (x ∷ xs) ys ns ms h k = (h.0, h.1 ++ ms, ap (λ (ls : List N). ls ++ ms) h.2 ∙ append_assoc h.0 h.1 ms, h.3, parts-append xs ys h.1 ms h.4 k)

  -- of the part at one place more
  pub part_noted : (xs : List X) (place : ℕ) (d : X) (notes more own : List N) → place < length xs
      → InParts IsPart (take place xs) notes → IsPart (get_or xs place d) own → more ≡ notes ++ own → InParts IsPart (take (place + 1) xs) more
  part_noted xs place d notes more own within parts part is =
      subst (λ (ns : List N). InParts IsPart (take (place + 1) xs) ns) (sym is)
      (subst (λ (ys : List X). InParts IsPart ys (notes ++ own)) (sym (take_more xs place d within)) (parts_more IsPart (take place xs) (get_or xs place d) notes own parts part))

  -- of the parts at some places more
  pub parts_further : (xs : List X) (at end : ℕ) (notes own more : List N) → at ≤ end
      → InParts IsPart (take at xs) notes → InParts IsPart (take (end - at) (drop at xs)) own → more ≡ notes ++ own → InParts IsPart (take end xs) more
  parts_further xs at end notes own more order parts further is =
      let whole : at + (end - at) ≡ end = omega arith in
      subst (λ (ns : List N). InParts IsPart (take end xs) ns) (sym is)
      (subst (λ (ys : List X). InParts IsPart ys (notes ++ own)) (sym (take-add at (end - at) xs) ∙ ap (λ (n : ℕ). take n xs) whole)
      (parts-append (take at xs) (take (end - at) (drop at xs)) notes own parts further))
