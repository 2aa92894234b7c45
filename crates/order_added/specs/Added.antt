-- What is added to an order so that it is accepted.
--     IsAdded b day ordered added    with these codes behind it the order is accepted, and with all of them but one it isn't
--     Among xs ys                    ys are some of xs, in their sequence
use Rattle.std.specs.Prelude.{◌≡◌, ◌⊎◌, ℕ, ◌<◌, true, false, List, [], ◌∷◌, ◌++◌, length}
use Rattle.std.specs.List.{remove}
use Rattle.book_model.specs.Contents.{Contents}
use Rattle.order_added.specs.Accepted.{is_accepted}

pub record IsAdded (b : Contents) (day : ℕ) (ordered added : List (List ℕ)) : Type 0 where
  pub accepted : is_accepted b day (ordered ++ added) ≡ true
  pub needed : (place : ℕ) → place < length added → is_accepted b day (ordered ++ remove added place) ≡ false

-- each element stands next, or is left out
abbrev pub Among : {X : Type 0} → List X → List X → Type 0
Among [] ys = ys ≡ []
Among {X} (x ∷ xs) ys = Among xs ys ⊎ ((zs : List X) × (ys ≡ x ∷ zs) × Among xs zs)
