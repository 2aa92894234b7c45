-- What is drawn is in its range.
--     GroupFits j g       of the group of number j
--     GroupsFit j gs      of all, of which the first has the number j
use Rattle.std.specs.Prelude.{ℕ, suc, ◌*◌, ◌<◌, ◌≤◌, List, [], ◌∷◌, IfSome}
use Rattle.book_sample.specs.declared.group.Bound.{Bound}
use Rattle.book_sample.specs.declared.group.Choice.{Choice}
use Rattle.book_sample.specs.declared.group.Group.{Group}

-- the other code is one of an earlier group
pub record BoundFits (j : ℕ) (b : Bound) : Type 0 where
  pub code : b.code < 4
  pub group : b.group < j
  pub forbids : b.forbids < 4

-- so is that of a variant
pub record ChoiceFits (j : ℕ) (c : Choice) : Type 0 where
  pub some : 1 ≤ c.quantity
  pub few : c.quantity ≤ 9
  pub other : IfSome c.other (λ place. place < 4 * j)

pub record GroupFits (j : ℕ) (g : Group) : Type 0 where
  pub adds : g.adds < 4
  pub rank : g.rank < 100
  pub bound : IfSome g.bound (BoundFits j)
  pub first : ChoiceFits j g.first
  pub second : ChoiceFits j g.second
  pub third : ChoiceFits j g.third
  pub fourth : ChoiceFits j g.fourth

abbrev pub GroupsFit : ℕ → List Group → Type 0
GroupsFit j [] = Unit {0}
GroupsFit j (g ∷ gs) = GroupFits j g × GroupsFit (suc j) gs
