use Rattle.order_added.proofs.AcceptLaws.{refused_when_broken}
use Rattle.order_added.proofs.judge.Judge.passes_ordered.Goals as goal

pub returns-then-broken : goal.returns-then-broken
returns-then-broken c =
    let j = c.self.inside in
    refused_when_broken j.book.now j.day j.ordered j.positions c.args.self.now c.args.set c.self.view_is (c.breaks_one-broken.ensures c.if-broken.true)
