-- Lists of which another has some.
use Rattle.std.proofs.Common.{◌≡◌, ℕ, zero, suc, ◌+◌, ◌<◌, ◌≤◌, Bool, true, List, [], ◌∷◌, ◌++◌, Some, length, take, get_or, slice_get, refl, sym, ap, subst, ◌∙◌, inl, inr, arith}
use Rattle.std.specs.List.{list_all, AllByRecursion}
use Rattle.std.proofs.lemmas.Bool.{and_parts, and_from}
use Rattle.std.proofs.lemmas.List.{take_more}
use Rattle.blame.specs.Entries.{Among}

module _ {X : Type 0} where
  pub among_self : (xs : List X) → Among xs xs
  among_self [] = refl
  among_self (x ∷ xs) = inr (xs, refl, among_self xs)

  pub among_among : (xs ys zs : List X) → Among xs ys → Among ys zs → Among xs zs
  among_among [] ys zs h k = subst (λ (us : List X). Among us zs) h k
  among_among (x ∷ xs) ys zs (inl h) k = inl (among_among xs ys zs h k)
  among_among (x ∷ xs) ys zs (inr h) k =
      let rest : Among (x ∷ h.0) zs = subst (λ (us : List X). Among us zs) h.1 k in
      elim rest [
        | inl later ↦ inl (among_among xs h.0 zs h.2 later)
        | inr next ↦ inr (next.0, next.1, among_among xs h.0 next.0 h.2 next.2)
      ]

  -- one element more, which is taken or left out
  pub among_taken : (xs ys : List X) (x : X) → Among xs ys → Among (xs ++ x ∷ []) (ys ++ x ∷ [])
  among_taken [] ys x h = inr ([], ap (λ (us : List X). us ++ x ∷ []) h, refl)
  among_taken (z ∷ zs) ys x (inl h) = inl (among_taken zs ys x h)
  among_taken (z ∷ zs) ys x (inr h) = inr (h.0 ++ x ∷ [], ap (λ (us : List X). us ++ x ∷ []) h.1, among_taken zs h.0 x h.2)

  pub among_passed : (xs ys : List X) (x : X) → Among xs ys → Among (xs ++ x ∷ []) ys
  among_passed [] ys x h = inl h
  among_passed (z ∷ zs) ys x (inl h) = inl (among_passed zs ys x h)
  among_passed (z ∷ zs) ys x (inr h) = inr (h.0, h.1, among_passed zs h.0 x h.2)

  pub length-among : (xs ys : List X) → Among xs ys → length ys ≤ length xs
  length-among [] ys h = omega (arith, ap length h)
  length-among (x ∷ xs) ys (inl h) = omega (arith, length-among xs ys h)
  length-among (x ∷ xs) ys (inr h) = omega (arith, length-among xs h.0 h.2, ap length h.1)

  pub all_among : (P : X → Type 0) (xs ys : List X) → AllByRecursion P xs → Among xs ys → AllByRecursion P ys
  all_among P [] ys all h = subst (AllByRecursion P) (sym h) tt
  all_among P (x ∷ xs) ys all (inl h) = all_among P xs ys all.1 h
  all_among P (x ∷ xs) ys all (inr h) = subst (AllByRecursion P) (sym h.1) (all.0, all_among P xs h.0 all.1 h.2)

  -- what all elements pass, some of them pass
  pub list_all-among : (p : X → Bool) (xs ys : List X) → Among xs ys → list_all p xs ≡ true → list_all p ys ≡ true
  list_all-among p [] ys h all = ap (list_all p) h
  list_all-among p (x ∷ xs) ys (inl h) all = list_all-among p xs ys h (and_parts (p x) (list_all p xs) all).1
  list_all-among p (x ∷ xs) ys (inr h) all =
      let parts = and_parts (p x) (list_all p xs) all in
      ap (list_all p) h.1 ∙ and_from (p x) (list_all p h.0) parts.0 (list_all-among p xs h.0 h.2 parts.1)

  pub found_within : (xs : List X) (place : ℕ) (x : X) → slice_get xs place ≡ Some x → place < length xs
  found_within [] place x h = cc
  found_within (y ∷ ys) zero x h = omega arith
  found_within (y ∷ ys) (suc place) x h = omega (arith, found_within ys place x h)

  pub length-first : (n : ℕ) (xs : List X) → length (take n xs) ≤ n
  length-first zero xs = omega arith
  length-first (suc n) [] = omega arith
  length-first (suc n) (x ∷ xs) = omega (arith, length-first n xs)

  -- a loop over a list that pushes some of its elements
  pub pushed_next : (xs now next : List X) (i : ℕ) (x d : X) → i < length xs → x ≡ get_or xs i d → next ≡ now ++ x ∷ [] → Among (take i xs) now → Among (take (i + 1) xs) next
  pushed_next xs now next i x d within is more h =
      let taken : take (i + 1) xs ≡ take i xs ++ x ∷ [] = take_more xs i d within ∙ ap (λ (y : X). take i xs ++ y ∷ []) (sym is) in
      subst (λ (zs : List X). Among zs next) (sym taken) (subst (Among (take i xs ++ x ∷ [])) (sym more) (among_taken (take i xs) now x h))

  pub passed_next : (xs now : List X) (i : ℕ) (d : X) → i < length xs → Among (take i xs) now → Among (take (i + 1) xs) now
  passed_next xs now i d within h = subst (λ (zs : List X). Among zs now) (sym (take_more xs i d within)) (among_passed (take i xs) now (get_or xs i d) h)
