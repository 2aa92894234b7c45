-- What a clause has to say of some true literals.
--     Says lits c saying         it is quiet, or false, or but for one open literal false
use Rattle.std.specs.Prelude.{◌≡◌, ℕ, true, false, List}
use Rattle.clause_pool.specs.Literal.{complement}
use Rattle.clause_pool.specs.Clause.{has}
use Rattle.propagate.specs.Trail.{AllFalse, OthersFalse}
use Rattle.propagate.specs.Quiet.{IsQuietFor}
use Rattle.propagate.specs.declared.plain.Saying.{Saying}
use Rattle.propagate.specs.declared.plain.Saying.TheVariants.{Nothing, Conflict, Literal}

pub record IsForced (lits c : List ℕ) (l : ℕ) : Type 0 where
  pub is_in : has c l ≡ true
  pub others_false : OthersFalse lits c l
  pub not_true : has lits l ≡ false
  pub not_false : has lits (complement l) ≡ false

abbrev pub Says : List ℕ → List ℕ → Saying → Type 0
Says lits c Nothing = IsQuietFor lits c
Says lits c Conflict = AllFalse lits c
Says lits c (Literal l) = IsForced lits c l
