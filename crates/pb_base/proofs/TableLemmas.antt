-- The place at which a set of names puts a name.
use Rattle.std.proofs.Common.{◌≡◌, ℕ, Bool, true, false, List, [], ◌∷◌, ◌++◌, length, nat_lt, Ok, Err, not, refl, ◌∙◌, arith, if◌then◌else◌}
use Rattle.std.specs.List.{list_any, position_or_len}
use Rattle.pb_base.specs.Table.{Adds}
use Rattle.pb_base.specs.declared.answer.Fail.TheVariants.{Refused, Memory}

-- a name is found before the end exactly where one of the list is the same
module _ {N : Type 0} (eq : N → N → Bool) (name : N) where
  found-at : (names : List N) → nat_lt (position_or_len (eq name) names) (length names) ≡ list_any (eq name) names
  found-at [] = refl
  found-at (n ∷ names) = by (eq name n) refl (found-at names)
    where
      by : (b : Bool) → eq name n ≡ b → nat_lt (position_or_len (eq name) names) (length names) ≡ list_any (eq name) names
          → nat_lt (position_or_len (eq name) (n ∷ names)) (length (n ∷ names)) ≡ list_any (eq name) (n ∷ names)
      by true e h = rw e (grind arith)
      by false e h = rw (e, ← h) (grind arith)

  last-at : (names : List N) → list_any (eq name) names ≡ false → position_or_len (eq name) names ≡ length names
  last-at [] h = refl
  last-at (n ∷ names) h = by (eq name n) refl h (last-at names)
    where
      by : (b : Bool) → eq name n ≡ b → list_any (eq name) (n ∷ names) ≡ false
          → (list_any (eq name) names ≡ false → position_or_len (eq name) names ≡ length names)
          → position_or_len (eq name) (n ∷ names) ≡ length (n ∷ names)
      by true e h last = cc (rw e at h)
      by false e h last = let rest = rw e at h in rw (e, last rest) (omega arith)

  -- the answer of a table that puts a name into a set of names
  pub Adds-new : (names new : List N) (place : ℕ) → true ≡ not (list_any (eq name) names) → place ≡ position_or_len (eq name) names
      → new ≡ (if list_any (eq name) names then names else names ++ name ∷ []) → Adds eq names name new (Ok place)
  Adds-new names new place is_new at is =
      let none : list_any (eq name) names ≡ false = grind (arith, is_new) in
      (rw (found-at names ∙ none) refl, at ∙ last-at names none, rw none at is)

  pub Adds-known : (names new : List N) (place : ℕ) → false ≡ not (list_any (eq name) names) → place ≡ position_or_len (eq name) names
      → new ≡ (if list_any (eq name) names then names else names ++ name ∷ []) → Adds eq names name new (Err (Refused place))
  Adds-known names new place is_known at is =
      let one : list_any (eq name) names ≡ true = grind (arith, is_known) in
      (rw (found-at names ∙ one, at) refl, rw one at is)

  pub Adds-memory : (names new : List N) → list_any (eq name) names ≡ false → new ≡ names → Adds eq names name new (Err Memory)
  Adds-memory names new none is = (rw (found-at names ∙ none) refl, is)
