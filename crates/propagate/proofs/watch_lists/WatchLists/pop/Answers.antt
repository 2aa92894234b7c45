use Rattle.propagate.proofs.BlockLaws.{popped_by}
use Rattle.propagate.proofs.watch_lists.WatchLists.pop.Goals as goal

pub returns : goal.returns
returns c =
    popped_by c.self.inside.block.items c.self.inside.spans.items c.args.self.now c.args.code c.index-span.result.now c.self.invariant c.self.view_is c.requires c.index-span.ensures
    c.saturating_sub.result c.saturating_sub.ensures
