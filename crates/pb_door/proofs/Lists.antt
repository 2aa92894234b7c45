-- Lists of lists, of which the first ones are taken.
use Rattle.std.proofs.Common.{◌≡◌, ℕ, List, [], ◌∷◌, true, refl, arith}
use Rattle.std.specs.Prelude.{Bool, All, map, zero, suc}
use Rattle.std.specs.List.{list_all, list_any}
use Rattle.std.proofs.lemmas.List.Elements.{All-head, All-tail}
use Rattle.pb_door.specs.MemoryDoor.{first_of, rest_of, rest_after}

pub All-rest_of : {X : Type 0} (Q : List X → Type 0) (lists : List (List X)) → All Q lists → All Q (rest_of lists)
All-rest_of Q [] h = h
All-rest_of Q (xs ∷ lists) h = All-tail Q xs lists h

pub All-rest_after : {X : Type 0} (Q : List X → Type 0) (n : ℕ) (lists : List (List X)) → All Q lists → All Q (rest_after n lists)
All-rest_after Q zero lists h = h
All-rest_after Q (suc n) lists h = All-rest_of Q (rest_after n lists) (All-rest_after Q n lists h)

pub first_holds : {X : Type 0} (Q : List X → Type 0) (lists : List (List X)) → Q [] → All Q lists → Q (first_of lists)
first_holds Q [] none h = none
first_holds Q (xs ∷ lists) none h = All-head Q xs lists h

pub list_all-rest_of : {X : Type 0} (test : List X → Bool) (lists : List (List X)) → list_all test lists ≡ true → list_all test (rest_of lists) ≡ true
list_all-rest_of test [] h = h
list_all-rest_of test (xs ∷ lists) h = grind arith

pub list_all-rest_after : {X : Type 0} (test : List X → Bool) (n : ℕ) (lists : List (List X)) → list_all test lists ≡ true → list_all test (rest_after n lists) ≡ true
list_all-rest_after test zero lists h = h
list_all-rest_after test (suc n) lists h = list_all-rest_of test (rest_after n lists) (list_all-rest_after test n lists h)

pub first_passes : {X : Type 0} (test : List X → Bool) (lists : List (List X)) → test [] ≡ true → list_all test lists ≡ true → test (first_of lists) ≡ true
first_passes test [] none h = none
first_passes test (xs ∷ lists) none h = grind arith

pub list_any-map : {X Y : Type 0} (test : Y → Bool) (f : X → Y) (xs : List X) → list_any test (map f xs) ≡ list_any (λ x. test (f x)) xs
list_any-map test f [] = refl
list_any-map test f (x ∷ xs) = grind (arith, list_any-map test f xs)
