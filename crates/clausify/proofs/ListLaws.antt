-- What holds of each element of a list holds of each of lists that are made of it.
use Rattle.std.proofs.Common.{ℕ, Bool, List, [], ◌∷◌, ◌++◌, map, inl, inr, sym, ap, subst, ◌∙◌, append_assoc}
use Rattle.std.specs.List.{filter, AllByRecursion}
use Rattle.std.proofs.lemmas.Bool.{cases_Bool, cond-true, cond-false}
use Rattle.clausify.specs.Joints.{GrowsBy}
use Rattle.clausify.specs.Pairs.{pairs}

-- clauses that grow twice
pub grows_twice : (a b c : List (List ℕ)) → GrowsBy a b → GrowsBy b c → GrowsBy a c
grows_twice a b c f s = record { more = f.more ++ s.more; is = s.is ∙ ap (λ (cs : List (List ℕ)). cs ++ s.more) f.is ∙ append_assoc a f.more s.more }

module _ {X : Type 0} where
  pub all-append : (P : X → Type 0) (xs ys : List X) → AllByRecursion P xs → AllByRecursion P ys → AllByRecursion P (xs ++ ys)
  all-append P [] ys h k = k
  all-append P (x ∷ xs) ys h k = (h.0, all-append P xs ys h.1 k)

  pub all_first : (P : X → Type 0) (xs ys : List X) → AllByRecursion P (xs ++ ys) → AllByRecursion P xs
  all_first P [] ys h = tt
  all_first P (x ∷ xs) ys h = (h.0, all_first P xs ys h.1)

  pub all_last : (P : X → Type 0) (xs ys : List X) → AllByRecursion P (xs ++ ys) → AllByRecursion P ys
  all_last P [] ys h = h
  all_last P (x ∷ xs) ys h = all_last P xs ys h.1

  pub all_weaker : (P Q : X → Type 0) → ((x : X) → P x → Q x) → (xs : List X) → AllByRecursion P xs → AllByRecursion Q xs
  all_weaker P Q gives [] h = tt
  all_weaker P Q gives (x ∷ xs) h = (gives x h.0, all_weaker P Q gives xs h.1)

  pub all_filtered : (P : X → Type 0) (w : X → Bool) (xs : List X) → AllByRecursion P xs → AllByRecursion P (filter w xs)
  all_filtered P w [] h = tt
  all_filtered P w (x ∷ xs) h =
      elim (cases_Bool (w x)) [
        | inl e ↦ subst (λ (ys : List X). AllByRecursion P ys) (sym (cond-true (w x) (x ∷ filter w xs) (filter w xs) e)) (h.0, all_filtered P w xs h.1)
        | inr e ↦ subst (λ (ys : List X). AllByRecursion P ys) (sym (cond-false (w x) (x ∷ filter w xs) (filter w xs) e)) (all_filtered P w xs h.1)
      ]

module _ {X Y : Type 0} where
  pub all_mapped : (P : Y → Type 0) (f : X → Y) (xs : List X) → AllByRecursion P (map f xs) → AllByRecursion (λ x. P (f x)) xs
  all_mapped P f [] h = tt
  all_mapped P f (x ∷ xs) h = (h.0, all_mapped P f xs h.1)

  pub all-map : (P : Y → Type 0) (f : X → Y) (xs : List X) → AllByRecursion (λ x. P (f x)) xs → AllByRecursion P (map f xs)
  all-map P f [] h = tt
  all-map P f (x ∷ xs) h = (h.0, all-map P f xs h.1)

module _ {X : Type 0} where
  pub all_with : (P : X → Type 0) (x : X) (xs : List X) → P x → AllByRecursion P xs → AllByRecursion (λ (p : X × X). P p.0 × P p.1) (map (λ (y : X). (x, y)) xs)
  all_with P x [] h k = tt
  all_with P x (y ∷ xs) h k = ((h, k.0), all_with P x xs h k.1)

  pub all_pairs : (P : X → Type 0) (xs : List X) → AllByRecursion P xs → AllByRecursion (λ (p : X × X). P p.0 × P p.1) (pairs xs)
  all_pairs P [] h = tt
  all_pairs P (x ∷ xs) h =
      let with_x : X → X × X = λ y. (x, y) in
      all-append (λ (p : X × X). P p.0 × P p.1) (map with_x xs) (pairs xs) (all_with P x xs h.0 h.1) (all_pairs P xs h.1)
