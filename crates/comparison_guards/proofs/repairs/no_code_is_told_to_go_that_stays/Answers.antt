use Rattle.comparison_guards.proofs.PartsHave.{ok_map}
use Rattle.comparison_guards.proofs.RepairLaws.{left_goes}
use Rattle.comparison_guards.proofs.repairs.no_code_is_told_to_go_that_stays.Goals as goal

pub returns : goal.returns
returns c = ok_map _ _ (λ a h. left_goes c.args.book.now c.args.day c.args.names.now c.args.budget a h) c.why_answer.result c.why_answer.ensures.answer
