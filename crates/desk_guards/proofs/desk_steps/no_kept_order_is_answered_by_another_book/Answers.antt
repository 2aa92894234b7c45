use Rattle.desk_guards.proofs.OwnBooks.{own_book}
use Rattle.desk_guards.proofs.desk_steps.no_kept_order_is_answered_by_another_book.Goals as goal

pub returns : goal.returns
returns g c = λ order book. own_book c.args.desk.now c.step.new.self c.args.event c.step.result order book c.step.ensures.step
