use Rattle.std.proofs.Common.{◌∙◌}
use Rattle.order_added.proofs.AcceptLaws.{passes_when_done, same_completing}
use Rattle.order_added.proofs.judge.Judge.passes_completed.Goals as goal

pub returns : goal.returns
returns c =
    let j = c.self.inside in
    c.is_buildable-passed.ensures
    ∙ passes_when_done c.args.self.now j.completer c.args.set c.in_ok-completed.completed
    (same_completing j.book.now j.day j.ordered j.positions j.completer c.args.self.now c.self.invariant.1 c.self.view_is) c.in_ok-completed.ensures.completion
