-- A list in parts: one part more, and a list without items.
use Rattle.std.proofs.Common.{◌≡◌, List, [], ◌∷◌, ◌++◌, refl, sym, ap, subst, ◌∙◌, append_assoc}
use Rattle.std.specs.List.{AllByRecursion}
use Rattle.std.proofs.lemmas.List.{append-nil}
use Rattle.pb_base.specs.InParts.{InParts}

module _ {X N : Type 0} (IsPart : X → List N → Type 0) where
  -- one part more at the end
  pub parts_more : (xs : List X) (x : X) (notes own : List N) → InParts IsPart xs notes → IsPart x own → InParts IsPart (xs ++ x ∷ []) (notes ++ own)
  parts_more [] x notes own h part = (own, [], ap (λ (ns : List N). ns ++ own) h ∙ sym (append-nil own), part, refl)
  parts_more (y ∷ xs) x notes own h part =
      (h.0, h.1 ++ own, ap (λ (ns : List N). ns ++ own) h.2 ∙ append_assoc h.0 h.1 own, h.3, parts_more xs x h.1 own h.4 part)

  first_none : (own later : List N) → [] ≡ own ++ later → own ≡ []
  first_none [] later is = refl
  first_none (n ∷ own) later is = cc

  last_none : (own later : List N) → [] ≡ own ++ later → later ≡ []
  last_none [] later is = sym is
  last_none (n ∷ own) later is = cc

  -- where there is no item, no part has one
  pub none_in_parts : (xs : List X) (notes : List N) → notes ≡ [] → InParts IsPart xs notes → AllByRecursion (λ x. IsPart x []) xs
  none_in_parts [] notes none h = tt
  none_in_parts (x ∷ xs) notes none h =
      let split : [] ≡ h.0 ++ h.1 = sym none ∙ h.2 in
      (subst (IsPart x) (first_none h.0 h.1 split) h.3, none_in_parts xs h.1 (last_none h.0 h.1 split) h.4)
