use Rattle.std.proofs.Common.{◌≡◌, ℕ, ◌*◌, ◌<◌, List, [], ◌∷◌, Some, length, ap, subst, arith}
use Rattle.std.specs.Result.{IfOk}
use Rattle.std.specs.List.{slice_get}
use Rattle.clausify.specs.Goals.{void_asked}
use Rattle.clausify.specs.declared.question.Asked.{Asked}
use Rattle.solver.specs.Solver.{IsRight}
use Rattle.solver.proofs.OneLaws.{one_below, one_consistent}
use Rattle.findings.proofs.slice.ask_void.Goals as goal

-- the first question
first_of : (qs later : List Asked) (a : Asked) → qs ≡ a ∷ later → slice_get qs 0 ≡ Some a
first_of qs later a are = ap (λ (l : List Asked). slice_get l 0) are

some_question : (qs later : List Asked) (a : Asked) → qs ≡ a ∷ later → 0 < length qs
some_question qs later a are = let count = ap (λ (l : List Asked). length l) are in omega (arith, count)

pub first_goal-requires : goal.first_goal-requires
first_goal-requires c = some_question c.args.questions.now _ (void_asked (length c.args.book.now.codes)) c.requires.questions

pub solve-requires-clause-below : goal.solve-requires-clause-below
solve-requires-clause-below c =
    let is = c.first_goal.ensures (void_asked (length c.args.book.now.codes)) (first_of c.args.questions.now _ (void_asked (length c.args.book.now.codes)) c.requires.questions) in
    one_below c.first_goal.result (2 * c.args.solver.now.vars) (omega (arith, is, c.requires.void))

pub solve-requires-clause-consistent : goal.solve-requires-clause-consistent
solve-requires-clause-consistent c = one_consistent c.first_goal.result

pub returns-clause-answer : goal.returns-clause-answer
returns-clause-answer c =
    let is = c.first_goal.ensures (void_asked (length c.args.book.now.codes)) (first_of c.args.questions.now _ (void_asked (length c.args.book.now.codes)) c.requires.questions) in
    subst (λ (g : ℕ). IfOk c.solve.result (IsRight c.solve.new.self (g ∷ []) c.args.task.effort.budget)) is c.solve.ensures.answer
