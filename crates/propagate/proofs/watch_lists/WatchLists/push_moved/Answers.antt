use Rattle.std.proofs.Common.{◌+◌, ℕ, List, subst, sym, ap, ◌∙◌}
use Rattle.std.specs.List.{slice_set}
use Rattle.std.proofs.lemmas.List.{length-set}
use Rattle.propagate.specs.Block.{IsBlock, HasRoom}
use Rattle.propagate.specs.Attaching.{pushed_at}
use Rattle.propagate.specs.declared.watch.Watch.{Watch}
use Rattle.propagate.specs.declared.watch_lists.Span.{Span}
use Rattle.propagate.proofs.BlockLaws.{on_err, longer_lists, pushed_block, pushed_lists, within_lists, read_span}
use Rattle.propagate.proofs.watch_lists.WatchLists.push_moved.Goals as goal

pub returns-in_err-span-clause-err : goal.returns-in_err-span-clause-err
returns-in_err-span-clause-err c =
    on_err c.from_residual.result (longer_lists c.self.inside.block.items c.with_room.new.block.items c.self.inside.spans.items c.self.invariant c.with_room.ensures.kept ∙ c.self.view_is)

pub invariant_of-self-2 : goal.invariant_of-self-2
invariant_of-self-2 c =
    let within = within_lists c.self.inside.block.items c.self.inside.spans.items c.args.self.now c.args.code c.self.view_is c.requires in
    let read = read_span c.self.inside.spans.items c.args.code c.index.result.now within c.index.ensures in
    let room = subst (λ (s : Span). HasRoom c.self.inside.block.items c.with_room.new.block.items s c.in_ok-span.span) read c.in_ok-span.ensures.room in
    subst (λ (n : ℕ). IsBlock (slice_set c.self.inside.spans.items c.args.code (record { start = c.in_ok-span.span.start; len = c.in_ok-span.span.len + 1; room = c.in_ok-span.span.room })) n) (sym (length-set c.with_room.new.block.items (c.in_ok-span.span.start + c.in_ok-span.span.len) c.args.watch))
    (pushed_block c.self.inside.block.items c.with_room.new.block.items c.self.inside.spans.items c.args.code c.in_ok-span.span c.self.invariant within c.with_room.ensures.kept room)

pub returns-clause-ok : goal.returns-clause-ok
returns-clause-ok c =
    let within = within_lists c.self.inside.block.items c.self.inside.spans.items c.args.self.now c.args.code c.self.view_is c.requires in
    let read = read_span c.self.inside.spans.items c.args.code c.index.result.now within c.index.ensures in
    let room = subst (λ (s : Span). HasRoom c.self.inside.block.items c.with_room.new.block.items s c.in_ok-span.span) read c.in_ok-span.ensures.room in
    pushed_lists c.self.inside.block.items c.with_room.new.block.items c.self.inside.spans.items c.args.code c.in_ok-span.span c.self.invariant within c.with_room.ensures.kept room c.args.watch
    ∙ ap (λ (ls : List (List Watch)). pushed_at ls c.args.code c.args.watch) c.self.view_is
