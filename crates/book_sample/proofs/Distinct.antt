-- What is known of a name among distinct ones.
use Rattle.std.proofs.Common.{◌≡◌, ℕ, ◌+◌, false, List, [], ◌∷◌, ◌++◌, None, refl, ap, ◌∙◌}
use Rattle.std.specs.Prelude.{is_some}
use Rattle.std.specs.List.{IsDistinct, AllByRecursion, position_from}
use Rattle.std.specs.Cmp.Lexicographic.{nat_list_eq_equiv}
use Rattle.std.proofs.lemmas.Iterator.Adapters.{position_from-zero}
use Rattle.pb_base.specs.Names.{same_name, place_in}
use Rattle.book_text.proofs.DistinctLemmas.{IsAbsent}

all_parts : {X : Type 0} (P : X → Type 0) (xs ys : List X) (x : X) → AllByRecursion P (xs ++ x ∷ ys) → P x × AllByRecursion P (xs ++ ys)
all_parts P [] ys x h = h
all_parts P (y ∷ xs) ys x h = let rest = all_parts P xs ys x h.1 in (rest.0, (h.0, rest.1))

-- a name that stands between others is none of them, and they are distinct without it
pub record IsBetween (xs ys : List (List ℕ)) (x : List ℕ) : Type 0 where
  pub before : IsAbsent x xs
  pub behind : IsAbsent x ys
  pub others : IsDistinct same_name (xs ++ ys)

pub between : (xs ys : List (List ℕ)) (x : List ℕ) → IsDistinct same_name (xs ++ x ∷ ys) → IsBetween xs ys x
unfolding IsDistinct
between [] ys x d = record { before = tt; behind = d.0; others = d.1 }
between (y ∷ xs) ys x d =
    let rest = between xs ys x d.1 in
    let parts = all_parts (λ z. same_name y z ≡ false) xs ys x d.0 in
    record { before = (nat_list_eq_equiv.symm x y ∙ parts.0, rest.before); behind = rest.behind; others = (parts.1, rest.others) }

none_found : (name : List ℕ) (i : ℕ) (names : List (List ℕ)) → IsAbsent name names → position_from (same_name name) i names ≡ None
none_found name i [] h = refl
none_found name i (x ∷ names) h = rw h.0 (none_found name (i + 1) names h.1)

-- a name that is none of these has no place among them
pub no_place : (names : List (List ℕ)) (name : List ℕ) → IsAbsent name names → is_some (place_in names name) ≡ false
no_place names name h = ap is_some (position_from-zero (same_name name) names ∙ none_found name 0 names h)
