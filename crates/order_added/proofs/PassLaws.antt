-- What passes over the added codes come to.
use Rattle.std.proofs.Common.{◌≡◌, ℕ, zero, suc, ◌+◌, ◌<◌, ◌≤◌, true, List, [], ◌∷◌, ◌++◌, length, take, drop, map, refl, sym, ap, subst, ◌∙◌, inl, inr, arith}
use Rattle.std.specs.List.{remove}
use Rattle.std.proofs.lemmas.List.Edits.{length-remove}
use Rattle.order_added.specs.Added.{Among}
use Rattle.order_added.specs.Judging.{Judging, passes_with, AreNeeded, IsPassed}

module _ {X : Type 0} where
  pub among_self : (xs : List X) → Among xs xs
  among_self [] = refl
  among_self (x ∷ xs) = inr (xs, refl, among_self xs)

  pub among_none : (xs : List X) → Among xs []
  among_none [] = refl
  among_none (x ∷ xs) = inl (among_none xs)

  pub among_among : (xs ys zs : List X) → Among xs ys → Among ys zs → Among xs zs
  among_among [] ys zs h k = subst (λ (us : List X). Among us zs) h k
  among_among (x ∷ xs) ys zs (inl h) k = inl (among_among xs ys zs h k)
  among_among (x ∷ xs) ys zs (inr h) k =
      let rest : Among (x ∷ h.0) zs = subst (λ (us : List X). Among us zs) h.1 k in
      elim rest [
        | inl later ↦ inl (among_among xs h.0 zs h.2 later)
        | inr next ↦ inr (next.0, next.1, among_among xs h.0 next.0 h.2 next.2)
      ]

  pub among_without : (xs ys : List X) (place : ℕ) → place < length ys → Among xs ys → Among xs (remove ys place)
  among_without [] ys place within h = absurd (omega (arith, ap length h))
  among_without (x ∷ xs) ys place within (inl h) = inl (among_without xs ys place within h)
  among_without (x ∷ xs) ys zero within (inr h) = inl (subst (Among xs) (sym (ap (λ (us : List X). remove us 0) h.1)) h.2)
  among_without (x ∷ xs) ys (suc place) within (inr h) =
      inr (remove h.0 place, ap (λ (us : List X). remove us (suc place)) h.1, among_without xs h.0 place (omega (arith, ap length h.1)) h.2)

  pub among_one : (xs ys zs : List X) (place : ℕ) → place < length ys → zs ≡ remove ys place → Among xs ys → Among xs zs
  among_one xs ys zs place within is h = subst (Among xs) (sym is) (among_without xs ys place within h)

  among_drop : (xs : List X) (count : ℕ) → Among xs (drop count xs)
  among_drop [] zero = refl
  among_drop [] (suc count) = refl
  among_drop (x ∷ xs) zero = among_self (x ∷ xs)
  among_drop (x ∷ xs) (suc count) = inl (among_drop xs count)

  -- without those from one place up to another
  pub among_cut : (xs : List X) (at end : ℕ) → at ≤ end → Among xs (take at xs ++ drop end xs)
  among_cut [] zero zero order = refl
  among_cut [] zero (suc end) order = refl
  among_cut [] (suc at) zero order = refl
  among_cut [] (suc at) (suc end) order = refl
  among_cut (x ∷ xs) zero end order = among_drop (x ∷ xs) end
  among_cut (x ∷ xs) (suc at) zero order = absurd (omega (arith, order))
  among_cut (x ∷ xs) (suc at) (suc end) order = inr (take at xs ++ drop end xs, refl, among_cut xs at end (omega (arith, order)))

-- the images of some elements
pub among_map : {X Y : Type 0} (f : X → Y) (xs ys : List X) → Among xs ys → Among (map f xs) (map f ys)
among_map f [] ys h = ap (map f) h
among_map f (x ∷ xs) ys (inl h) = inl (among_map f xs ys h)
among_map f (x ∷ xs) ys (inr h) = inr (map f h.0, ap (map f) h.1, among_map f xs h.0 h.2)

-- a pass on its way down: which codes were tried since one was taken out, and which are known to be needed from before
pub record Passing (j : Judging) (before : List ℕ) (at end first : ℕ) (added : List ℕ) : Type 0 where
  pub in_range : at ≤ length added
  pub most : length added ≤ length before
  pub passes : passes_with j added ≡ true
  pub among : Among before added
  pub tried : AreNeeded j at end added
  pub known : AreNeeded j 0 first added
  pub fewer : end < length added → length added < length before

pub passing_begun : (j : Judging) (added : List ℕ) (end first : ℕ) → end ≡ length added → passes_with j added ≡ true → AreNeeded j 0 first added
    → Passing j added end end first added
passing_begun j added end first start passes known = record {
  in_range = omega (arith, start);
  most = omega arith;
  passes = passes;
  among = among_self added;
  tried = λ place from until within. absurd (omega arith);
  known = known;
  fewer = λ less. absurd (omega (arith, start));
}

-- a code is taken out: none was tried since
pub passing_out : (j : Judging) (before old new : List ℕ) (from at end first : ℕ) → from ≡ at + 1 → Passing j before from end first old
    → new ≡ remove old at → passes_with j new ≡ true → Passing j before at at 0 new
passing_out j before old new from at end first next h is passes =
    let there : at < length old = omega (arith, h.in_range, next) in
    let count : length new + 1 ≡ length old = ap (λ (xs : List ℕ). length xs + 1) is ∙ length-remove old at there in
    record {
      in_range = omega arith;
      most = omega (arith, h.most);
      passes = passes;
      among = among_one before old new at there is h.among;
      tried = λ place low high within. absurd (omega arith);
      known = λ place low high within. absurd (omega arith);
      fewer = λ less. omega (arith, h.most);
    }

-- and all passes
pub record Needing (j : Judging) (others added : List ℕ) (needed : ℕ) : Type 0 where
  pub passes : passes_with j added ≡ true
  pub among : Among others added
  pub are_needed : AreNeeded j 0 needed added

pub needing_begun : (j : Judging) (others : List ℕ) → passes_with j others ≡ true → Needing j others others 0
needing_begun j others passes = record {
  passes = passes;
  among = among_self others;
  are_needed = λ place low high within. absurd (omega arith);
}

pub needing_more : (j : Judging) (others old new : List ℕ) (before needed : ℕ) → Needing j others old before
    → passes_with j new ≡ true → Among old new → IsPassed j old new needed → Needing j others new needed
needing_more j others old new before needed h passes among passed = record {
  passes = passes;
  among = among_among others old new h.among among;
  are_needed = passed.are_needed;
}

-- what is left while runs are taken out, of which the next ends at a place
pub record Cutting (j : Judging) (before added : List ℕ) (end : ℕ) : Type 0 where
  pub passes : passes_with j added ≡ true
  pub among : Among before added
  pub in_range : end ≤ length added

pub cutting_begun : (j : Judging) (added : List ℕ) (end : ℕ) → end ≤ length added → passes_with j added ≡ true → Cutting j added added end
cutting_begun j added end within passes = record { passes = passes; among = among_self added; in_range = within }

pub cutting_more : (j : Judging) (before old new : List ℕ) (end at : ℕ) → Cutting j before old end
    → passes_with j new ≡ true → Among old new → at ≤ length new → Cutting j before new at
cutting_more j before old new end at h passes among within =
    record { passes = passes; among = among_among before old new h.among among; in_range = within }
