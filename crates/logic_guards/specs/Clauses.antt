-- What clauses say of sets.
--     IsAllowed clauses x         some assignment that begins with the set satisfies the clauses
--     HasLiteral b clauses v      some literal is true just where the formula of the variant at a place is
use Rattle.std.specs.Prelude.{◌≡◌, ℕ, Bool, List, length}
use Rattle.pb_base.specs.Rule.{holds}
use Rattle.book_model.specs.Contents.{Contents}
use Rattle.clause_pool.specs.Literal.{is_true}
use Rattle.clause_pool.specs.Clause.{Sat}
use Rattle.clausify.specs.Choices.{usage}
use Rattle.clausify.specs.Lifting.{BeginsWith}

pub record IsAllowed (clauses : List (List ℕ)) (x : List Bool) : Type 0 where
  pub assignment : ℕ → Bool
  pub begins : BeginsWith x assignment
  pub satisfies : Sat clauses assignment

pub record HasLiteral (b : Contents) (clauses : List (List ℕ)) (variant : ℕ) : Type 0 where
  pub literal : ℕ
  pub right : (x : List Bool) (a : ℕ → Bool) → length x ≡ length b.codes → BeginsWith x a → Sat clauses a
      → is_true a literal ≡ holds (usage b variant) x
