use Rattle.std.proofs.Common.{◌+◌, ◌-◌, ap, ◌∙◌}
use Rattle.std.specs.List.{slice_set}
use Rattle.propagate.specs.Block.{lists_in}
use Rattle.propagate.specs.declared.watch_lists.Span.{Span}
use Rattle.propagate.proofs.BlockLaws.{one_span, removed_by, within_lists}
use Rattle.propagate.proofs.watch_lists.WatchLists.remove.Goals as goal

pub returns-clause-lists : goal.returns-clause-lists
returns-clause-lists c =
    let block = c.self.inside.block.items in let spans = c.self.inside.spans.items in let code = c.args.code in let s = c.index-span.result.now in
    let same = one_span spans code s c.index_mut-2.result.now (within_lists block spans c.args.self.now code c.self.view_is c.requires.list) c.index-span.ensures c.index_mut-2.ensures.value in
    ap (λ (r : Span). lists_in (slice_set block (s.start + c.args.at) c.index-last.result.now) (slice_set spans code (record { start = r.start; len = s.len - 1; room = r.room }))) same
    ∙ removed_by block spans c.args.self.now code s c.self.invariant c.self.view_is c.requires.list c.index-span.ensures c.args.at c.entry-gone.result c.index-last.result.now c.requires.there c.index-last.ensures
