use Rattle.std.proofs.Common.{refl, subst}
use Rattle.free_answers.specs.Answer.{IsAnswer}
use Rattle.free_answers.specs.FreeText.{free_text}
use Rattle.answering.specs.Answers.{TellsFree}
use Rattle.answering.proofs.AdviceLaws.{advised}
use Rattle.answering.proofs.advice.free_of.Goals as goal

pub returns-in-Ok : goal.returns-in-Ok
returns-in-Ok c =
    let b = c.args.book.now in
    let order = c.args.order.now in
    let answer = c.in-Ok.answer in
    let right : IsAnswer b order.day order.codes c.args.budget answer =
    subst (λ names. IsAnswer b order.day names c.args.budget answer) c.as_slice.ensures c.in-Ok.ensures.answer in
    advised TellsFree b order c.args.budget (free_text b answer) c.free_told.result right.faultless (answer, right, refl) c.free_told.ensures
