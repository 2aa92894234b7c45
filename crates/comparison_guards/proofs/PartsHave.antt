-- What holds of an answer by what else does; and of all notes of a list in parts, and of each item, by what holds of each part.
use Rattle.std.proofs.Common.{◌≡◌, Bool, true, false, List, [], ◌∷◌, ◌++◌, refl, sym, subst, ◌∙◌, filter}
use Rattle.std.specs.Prelude.{IfOk, Result, Ok, Err}
use Rattle.std.specs.List.{AllByRecursion}
use Rattle.std.proofs.lemmas.Bool.{true≢false}
use Rattle.pb_base.specs.InParts.{InParts}

pub ok_map : {A E : Type 0} (P Q : A → Type 0) → ((a : A) → P a → Q a) → (r : Result A E) → IfOk r P → IfOk r Q
ok_map P Q each (Ok a) h = each a h
ok_map P Q each (Err e) h = tt

pub all_map : {X : Type 0} (P Q : X → Type 0) → ((x : X) → P x → Q x) → (xs : List X) → AllByRecursion P xs → AllByRecursion Q xs
all_map P Q each [] h = tt
all_map P Q each (x ∷ xs) h = (each x h.0, all_map P Q each xs h.1)

pub all_both : {X : Type 0} (P : X → Type 0) (xs ys : List X) → AllByRecursion P xs → AllByRecursion P ys → AllByRecursion P (xs ++ ys)
all_both P [] ys h k = k
all_both P (x ∷ xs) ys h k = (h.0, all_both P xs ys h.1 k)

pub all_back : {X : Type 0} (P : X → Type 0) (xs ys : List X) → AllByRecursion P (xs ++ ys) → AllByRecursion P ys
all_back P [] ys h = h
all_back P (x ∷ xs) ys h = all_back P xs ys h.1

-- of those that pass a test, where it holds of each of the filtered ones
pub all_filtered : {X : Type 0} (P : X → Type 0) (q : X → Bool) (xs : List X) → AllByRecursion P (filter q xs) → AllByRecursion (λ x. q x ≡ true → P x) xs
all_filtered P q [] h = tt
all_filtered {X} P q (x ∷ xs) h = by (q x) refl (λ k. all_filtered P q xs k)
  where
    by : (b : Bool) → q x ≡ b → (AllByRecursion P (filter q xs) → AllByRecursion (λ y. q y ≡ true → P y) xs) → AllByRecursion (λ y. q y ≡ true → P y) (x ∷ xs)
    by true is more = let k : AllByRecursion P (x ∷ filter q xs) = rw is at h in (λ _. k.0, more k.1)
    by false is more = let k : AllByRecursion P (filter q xs) = rw is at h in (λ (e : q x ≡ true). absurd (true≢false (sym e ∙ is)), more k)

module _ {X N : Type 0} (IsPart : X → List N → Type 0) where
  pub parts_all : (P : N → Type 0) → ((x : X) (own : List N) → IsPart x own → AllByRecursion P own) → (xs : List X) (notes : List N) → InParts IsPart xs notes → AllByRecursion P notes
  parts_all P each [] notes h = subst (AllByRecursion P) (sym h) tt
  parts_all P each (x ∷ xs) notes h = subst (AllByRecursion P) (sym h.2) (all_both P h.0 h.1 (each x h.0 h.3) (parts_all P each xs h.1 h.4))

  -- what holds of an item by its own part, and goes on to hold with more notes
  pub parts_each : (Q : X → List N → Type 0) → ((x : X) (own : List N) → IsPart x own → Q x own) → ((x : X) (one more : List N) → Q x one → Q x (one ++ more))
      → ((x : X) (one more : List N) → Q x more → Q x (one ++ more)) → (xs : List X) (notes : List N) → InParts IsPart xs notes → AllByRecursion (λ x. Q x notes) xs
  parts_each Q each front back [] notes h = tt
  parts_each Q each front back (x ∷ xs) notes h = (
    subst (Q x) (sym h.2) (front x h.0 h.1 (each x h.0 h.3)),
    all_map (λ y. Q y h.1) (λ y. Q y notes) (λ y q. subst (Q y) (sym h.2) (back y h.0 h.1 q)) xs (parts_each Q each front back xs h.1 h.4),
  )
