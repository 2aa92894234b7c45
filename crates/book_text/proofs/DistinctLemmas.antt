-- Names that stay distinct as they are added.
use Rattle.std.proofs.Common.{◌≡◌, ℕ, ◌+◌, Bool, true, false, List, [], ◌∷◌, ◌++◌, Option, Some, None, cond, refl, sym, ◌∙◌}
use Rattle.std.specs.Prelude.{is_some}
use Rattle.std.specs.List.{IsDistinct, AllByRecursion, position_from}
use Rattle.std.specs.Cmp.Lexicographic.{nat_list_eq_equiv}
use Rattle.std.proofs.lemmas.Iterator.Adapters.{position_from-zero}
use Rattle.pb_base.specs.Names.{same_name, place_in}

absent-at : {X : Type 0} (test : X → Bool) (b : Bool) (x : X) (i : ℕ) (rest : Option ℕ) (xs : List X) → test x ≡ b
    → cond b (Some i) rest ≡ None → (rest ≡ None → AllByRecursion (λ y. test y ≡ false) xs) → AllByRecursion (λ y. test y ≡ false) (x ∷ xs)
absent-at test true x i rest xs e h others = cc
absent-at test false x i rest xs e h others = (e, others h)

none-passes : {X : Type 0} (test : X → Bool) (i : ℕ) (xs : List X) → position_from test i xs ≡ None → AllByRecursion (λ y. test y ≡ false) xs
none-passes test i [] h = tt
none-passes test i (x ∷ xs) h = absent-at test (test x) x i (position_from test (i + 1) xs) xs refl h (none-passes test (i + 1) xs)

-- no name of a list is this one
abbrev pub IsAbsent : List ℕ → List (List ℕ) → Type 0
IsAbsent name names = AllByRecursion (λ y. same_name name y ≡ false) names

none-found : (o : Option ℕ) → is_some o ≡ false → o ≡ None
none-found None h = refl
none-found (Some place) h = cc

pub absent-from_place : (names : List (List ℕ)) (name : List ℕ) → is_some (place_in names name) ≡ false → IsAbsent name names
absent-from_place names name h =
    none-passes (same_name name) 0 names (sym (position_from-zero (same_name name) names) ∙ none-found (place_in names name) h)

-- the same seen from the names of the list
pub absent-flipped : (names : List (List ℕ)) (name : List ℕ) → IsAbsent name names → AllByRecursion (λ y. same_name y name ≡ false) names
absent-flipped [] name h = tt
absent-flipped (y ∷ names) name h = (nat_list_eq_equiv.symm y name ∙ h.0, absent-flipped names name h.1)

AllByRecursion-push : {X : Type 0} (P : X → Type 0) (xs : List X) (x : X) → AllByRecursion P xs → P x → AllByRecursion P (xs ++ x ∷ [])
AllByRecursion-push P [] x h p = (p, tt)
AllByRecursion-push P (y ∷ xs) x h p = (h.0, AllByRecursion-push P xs x h.1 p)

AllByRecursion-insert : {X : Type 0} (P : X → Type 0) (xs ys : List X) (x : X) → AllByRecursion P (xs ++ ys) → P x → AllByRecursion P ((xs ++ x ∷ []) ++ ys)
AllByRecursion-insert P [] ys x h p = (p, h)
AllByRecursion-insert P (y ∷ xs) ys x h p = (h.0, AllByRecursion-insert P xs ys x h.1 p)

push-distinct : (xs : List (List ℕ)) (x : List ℕ) → IsDistinct same_name xs → AllByRecursion (λ y. same_name y x ≡ false) xs → IsDistinct same_name (xs ++ x ∷ [])
unfolding IsDistinct
push-distinct [] x d a = (tt, tt)
push-distinct (y ∷ xs) x d a = (AllByRecursion-push (λ z. same_name y z ≡ false) xs x d.0 a.0, push-distinct xs x d.1 a.1)

pub distinct-push : (xs : List (List ℕ)) (x : List ℕ) → IsDistinct same_name xs → IsAbsent x xs → IsDistinct same_name (xs ++ x ∷ [])
distinct-push xs x d a = push-distinct xs x d (absent-flipped xs x a)

-- a name put between two lists that are distinct together
pub distinct-insert : (xs ys : List (List ℕ)) (x : List ℕ) → IsDistinct same_name (xs ++ ys) → AllByRecursion (λ y. same_name y x ≡ false) xs → IsAbsent x ys
    → IsDistinct same_name ((xs ++ x ∷ []) ++ ys)
unfolding IsDistinct
distinct-insert [] ys x d a b = (b, d)
distinct-insert (y ∷ xs) ys x d a b = (AllByRecursion-insert (λ z. same_name y z ≡ false) xs ys x d.0 a.0, distinct-insert xs ys x d.1 a.1 b)

AllByRecursion-append : {X : Type 0} (P : X → Type 0) (xs ys : List X) → AllByRecursion P xs → AllByRecursion P ys → AllByRecursion P (xs ++ ys)
AllByRecursion-append P [] ys h g = g
AllByRecursion-append P (x ∷ xs) ys h g = (h.0, AllByRecursion-append P xs ys h.1 g)

pub absent-append : (xs ys : List (List ℕ)) (x : List ℕ) → IsAbsent x xs → IsAbsent x ys → IsAbsent x (xs ++ ys)
absent-append xs ys x = AllByRecursion-append (λ y. same_name x y ≡ false) xs ys
