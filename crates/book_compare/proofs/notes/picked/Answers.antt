use Rattle.std.proofs.Common.{◌<◌, length, arith}
use Rattle.pb_base.specs.Picked.{picked}
use Rattle.book_compare.proofs.PickRuns.{picked_step}
use Rattle.book_compare.proofs.notes.picked.Goals as goal

pub loop-place-preserved : goal.loop-place-preserved
loop-place-preserved c =
    let in_range : c.loop-place.place < length c.args.codes.now = omega arith in
    picked_step c.args.set.now c.args.codes.now c.loop-place.place c.loop-place.names.items c.put_picked.new.names.items (picked c.args.codes.now c.args.set.now) in_range c.in_ok-put_picked.ensures c.loop-place.invariant
