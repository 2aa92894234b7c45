use Rattle.std.proofs.Common.{◌≡◌, Err}
use Rattle.parts_usage.specs.Outcome.{outcome_of}
use Rattle.answering.proofs.TableLaws.{accepted_outcome, kept_text, no_fault}
use Rattle.answering.proofs.orders.text_of_kept.Goals as goal

pub unreachable-requires : goal.unreachable-requires
unreachable-requires c =
    let b = c.args.kept.now.book.book in
    let order = c.args.kept.now.order in
    let fault : outcome_of b order.day order.codes ≡ Err c.in-Err-Refused.field-0-0 = rw c.in-Err-Refused.field-0-is at c.in-Err-Refused.ensures.outcome in
    no_fault (outcome_of b order.day order.codes) c.in-Err-Refused.field-0-0 fault (accepted_outcome b order.day order.codes c.requires)

pub returns-in-Ok : goal.returns-in-Ok
returns-in-Ok c =
    let b = c.args.kept.now.book.book in
    let order = c.args.kept.now.order in
    kept_text (outcome_of b order.day order.codes) b c.in-Ok.judged c.text_by.result c.in-Ok.ensures.outcome (accepted_outcome b order.day order.codes c.requires)
    c.text_by.ensures
