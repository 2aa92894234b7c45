use Rattle.propagate.proofs.BlockLaws.{pushed_in_room}
use Rattle.propagate.proofs.watch_lists.WatchLists.push.Goals as goal

pub returns-clause-ok : goal.returns-clause-ok
returns-clause-ok c =
    pushed_in_room c.self.inside.block.items c.self.inside.spans.items c.args.self.now c.args.code c.index-span.result.now c.index_mut-2.result.now c.self.invariant c.self.view_is c.requires c.index-span.ensures
    c.index_mut-2.ensures.value c.if-span.false c.args.watch
