use Rattle.comparison_guards.proofs.PartsHave.{ok_map}
use Rattle.comparison_guards.proofs.RepairLaws.{change_accepted}
use Rattle.comparison_guards.proofs.repairs.no_change_is_told_that_is_not_accepted.Goals as goal

pub returns : goal.returns
returns c = ok_map _ _ (λ a h. change_accepted c.args.book.now c.args.day c.args.names.now c.args.budget a h) c.why_answer.result c.why_answer.ensures.answer
