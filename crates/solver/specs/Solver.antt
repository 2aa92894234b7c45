-- What a solver is to its callers, and what it answers.
--     Solving                    its kernel, the number of its variables, and how many of them are codes
--     Onwards old new            its kernel derived further clauses, and nothing else changed
--     IsRight solving assumptions budget answer
--                                what an answer says of the clauses of a solver's kernel
use Rattle.std.specs.Prelude.{◌≡◌, ℕ, List}
use Rattle.clause_pool.specs.Derivation.{Derivation}
use Rattle.chains.specs.Growth.{Extends, given_of}
use Rattle.solver.specs.Answer.{Begins, IsCore, IsSpent}
use Rattle.solver.specs.declared.answer.Answer.{Answer}
use Rattle.solver.specs.declared.answer.Answer.TheVariants.{Set, Closed, Spent}

pub record Solving : Type 0 where
  pub kernel : Derivation
  pub vars : ℕ
  pub codes : ℕ

pub record Onwards (old new : Solving) : Type 0 where
  pub extends : Extends old.kernel new.kernel
  pub same_vars : new.vars ≡ old.vars
  pub same_codes : new.codes ≡ old.codes

abbrev pub IsRight : Solving → List ℕ → ℕ → Answer → Type 0
IsRight s assumptions budget (Set x) = Begins (given_of s.kernel) assumptions s.codes x
IsRight s assumptions budget (Closed at) = IsCore s.kernel assumptions at
IsRight s assumptions budget (Spent learnt) =
    IsSpent s.vars (given_of s.kernel) assumptions budget learnt.clauses
