use Rattle.std.proofs.Common.{refl, subst}
use Rattle.order_repair.specs.Repair.{IsAnswer}
use Rattle.order_repair.specs.RepairText.{why_text}
use Rattle.answering.specs.Answers.{TellsWhy}
use Rattle.answering.proofs.AdviceLaws.{advised}
use Rattle.answering.proofs.advice.why_of.Goals as goal

pub returns-in-Ok : goal.returns-in-Ok
returns-in-Ok c =
    let b = c.args.book.now in
    let order = c.args.order.now in
    let answer = c.in-Ok.answer in
    let right : IsAnswer b order.day order.codes c.args.budget answer =
    subst (λ names. IsAnswer b order.day names c.args.budget answer) c.as_slice.ensures c.in-Ok.ensures.answer in
    advised TellsWhy b order c.args.budget (why_text b answer) c.why_told.result right.faultless (answer, right, refl) c.why_told.ensures
