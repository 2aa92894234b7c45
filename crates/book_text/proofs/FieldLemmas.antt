-- The field at a place.
use Rattle.std.proofs.Common.{◌≡◌, ℕ, zero, suc, List, [], ◌∷◌, Some, None, get_or, refl}
use Rattle.csv.specs.Records.{field_at}

pub field-found : (fields : List (List ℕ)) (place : ℕ) (text : List ℕ) → field_at fields place ≡ Some text → text ≡ get_or fields place []
unfolding field_at
field-found [] place text h = cc
field-found (f ∷ fs) zero text h = cc
field-found (f ∷ fs) (suc place) text h = field-found fs place text h

pub field-past : (fields : List (List ℕ)) (place : ℕ) → field_at fields place ≡ None → [] ≡ get_or fields place []
unfolding field_at
field-past [] place h = refl
field-past (f ∷ fs) zero h = cc
field-past (f ∷ fs) (suc place) h = field-past fs place h
