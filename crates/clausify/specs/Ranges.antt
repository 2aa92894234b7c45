-- The ranges of what a slice is made into, in which those who read it may index.
use Rattle.std.specs.Prelude.{◌≡◌, ◌*◌, ◌<◌, Some, length, drop, slice_get}
use Rattle.std.specs.List.{AllByRecursion}
use Rattle.book_model.specs.Contents.{Contents}
use Rattle.clause_pool.specs.Clause.{AreBelow}
use Rattle.clausify.specs.Questions.{QuestionFits}
use Rattle.clausify.specs.Goals.{void_asked}
use Rattle.clausify.specs.declared.question.Coded.{Coded}

pub record IsInRange (b : Contents) (c : Coded) : Type 0 where
  -- the variables of the codes and the one that is always true are among the variables
  pub codes_below : length b.codes < c.vars
  pub literals_below : AreBelow (2 * c.vars) c.pool.clauses
  pub goals_below : AllByRecursion (λ q. q.goal < 2 * c.vars) c.questions.items
  -- Void is the first question and no other
  pub void_first : slice_get c.questions.items 0 ≡ Some (void_asked (length b.codes))
  pub later_fit : AllByRecursion (λ q. QuestionFits b q.question) (drop 1 c.questions.items)
