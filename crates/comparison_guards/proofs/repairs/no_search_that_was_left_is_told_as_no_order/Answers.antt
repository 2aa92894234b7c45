use Rattle.comparison_guards.proofs.PartsHave.{ok_map}
use Rattle.comparison_guards.proofs.RepairLaws.{none_ordered}
use Rattle.comparison_guards.proofs.repairs.no_search_that_was_left_is_told_as_no_order.Goals as goal

pub returns : goal.returns
returns c = ok_map _ _ (λ a h. none_ordered c.args.book.now c.args.day c.args.names.now c.args.budget a h) c.why_answer.result c.why_answer.ensures.answer
