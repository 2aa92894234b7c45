-- The clauses of a variable that joins two literals.
use Rattle.std.specs.Prelude.{◌≡◌, ℕ, List, ◌++◌}
use Rattle.clausify.specs.Formulas.{both_clauses, either_clauses}
use Rattle.clausify.specs.declared.joint.Joint.{Joint}
use Rattle.clausify.specs.declared.joint.Joint.TheVariants.{All, Any}

abbrev pub joint_clauses : Joint → ℕ → ℕ → ℕ → List (List ℕ)
joint_clauses All v a b = both_clauses v a b
joint_clauses Any v a b = either_clauses v a b

-- some clauses more at the end
pub record GrowsBy (old new : List (List ℕ)) : Type 0 where
  pub more : List (List ℕ)
  pub is : new ≡ old ++ more
