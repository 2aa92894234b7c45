-- What is made of items, place by place.
use Rattle.std.proofs.Common.{◌≡◌, ℕ, zero, suc, List, [], ◌∷◌, Some, subst}
use Rattle.std.specs.Prelude.{slice_get}
use Rattle.std.specs.List.{AllZip}
use Rattle.std.proofs.lemmas.Option.{none-some, same_Some}

pub at_its_place : {X Y : Type 0} (P : X → Y → Type 0) (xs : List X) (ys : List Y) (place : ℕ) (x : X) (y : Y) → AllZip P xs ys → slice_get xs place ≡ Some x
    → slice_get ys place ≡ Some y → P x y
at_its_place P [] ys place x y h k l = absurd (none-some x k)
at_its_place P (v ∷ xs) [] place x y h k l = absurd h
at_its_place P (v ∷ xs) (w ∷ ys) zero x y h k l = subst (λ z. P z y) (same_Some v x k) (subst (P v) (same_Some w y l) h.0)
at_its_place P (v ∷ xs) (w ∷ ys) (suc place) x y h k l = at_its_place P xs ys place x y h.1 k l
