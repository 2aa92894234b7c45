-- Lists that are mapped, joined or taken one by one.
use Rattle.std.proofs.Common.{◌≡◌, ◌+◌, List, ◌++◌, map, sym, ap, subst, ◌∙◌}
use Rattle.std.proofs.lemmas.List.{map-append}
use Rattle.clausify.specs.Items.{Item, variables_of}
use Rattle.clausify.specs.Encoding.{EncodesItems}
use Rattle.clausify.specs.declared.encoder.Encoder.{Encoder}
use Rattle.clausify.proofs.CodedLaws.{items_then}
use Rattle.clausify.proofs.ItemLaws.{variables_of-append}

-- items made of two lists, one after the other
pub mapped_then : {X : Type 0} (f : X → Item) (xs ys : List X) (m0 m1 m2 : Encoder) → EncodesItems m0 m1 (map f xs) → EncodesItems m1 m2 (map f ys) → EncodesItems m0 m2 (map f (xs ++ ys))
mapped_then f xs ys m0 m1 m2 one other =
    subst (EncodesItems m0 m2) (sym (map-append f xs ys)) (items_then m0 m1 m2 (map f xs) (map f ys) one other)

pub mapped_variables : {X : Type 0} (f : X → Item) (xs ys : List X) → variables_of (map f (xs ++ ys)) ≡ variables_of (map f xs) + variables_of (map f ys)
mapped_variables f xs ys = ap variables_of (map-append f xs ys) ∙ variables_of-append (map f xs) (map f ys)
