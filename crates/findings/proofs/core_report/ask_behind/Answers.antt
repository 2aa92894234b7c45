use Rattle.std.proofs.Common.{IfOk, IfSome, List, subst, ◌∙◌}
use Rattle.clausify.specs.declared.question.Question.{Question}
use Rattle.findings.specs.Answering.{inquiry}
use Rattle.findings.specs.Core.{AreToldOf}
use Rattle.findings.proofs.QuestionRanges.{later_fit}
use Rattle.findings.proofs.core_report.ask_behind.Goals as goal

pub answer_pairs-requires-clause-fits : goal.answer_pairs-requires-clause-fits
answer_pairs-requires-clause-fits c = later_fit c.args.book.now c.args.asking.task.slice.first c.deref.result.now (c.deref.ensures.value ∙ c.in_ok-questions.ensures)

pub ask_each-requires-clause-fits : goal.ask_each-requires-clause-fits
ask_each-requires-clause-fits c = later_fit c.args.book.now c.args.asking.task.slice.first c.deref-2.result.now (c.deref-2.ensures.value ∙ c.in_ok-questions.ensures)

pub returns-clause-told : goal.returns-clause-told
returns-clause-told c =
    subst
    (λ (qs : List Question). IfOk c.ask_each.result (λ told. IfSome told (λ notes. AreToldOf (inquiry c.args.book.now c.args.asking.task.effort) c.args.asking.task.slice qs notes.items)))
    (c.deref-2.ensures.value ∙ c.in_ok-questions.ensures) c.ask_each.ensures.told
