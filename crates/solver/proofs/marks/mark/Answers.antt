use Rattle.std.proofs.Common.{◌<◌, length, arith}
use Rattle.propagate.proofs.TakeLaws.{item_in}
use Rattle.solver.proofs.MarkLaws.{marked_more}
use Rattle.solver.proofs.marks.mark.Goals as goal

pub mark_one-requires-clause-below : goal.mark_one-requires-clause-below
mark_one-requires-clause-below c =
    let low : c.lit-item.result < length c.args.marks.now.items = c.requires.below c.lit-item.result (item_in c.args.lits.now c.loop-lit.lit-index c.lit-item.result (omega arith) c.lit-item.is) in
    omega (arith, low, c.loop-lit.invariant.is_marked.counted)

pub loop-lit-preserved : goal.loop-lit-preserved
loop-lit-preserved c =
    let low : c.lit-item.result < length c.args.marks.now.items = c.requires.below c.lit-item.result (item_in c.args.lits.now c.loop-lit.lit-index c.lit-item.result (omega arith) c.lit-item.is) in
    let more = c.mark_one.ensures.one_more in
    let same = c.mark_one.ensures.capacity in
    let room = c.loop-lit.invariant.room in
    record {
      is_marked = marked_more c.args.marks.now.items c.loop-lit.marks.items _ c.args.lits.now c.loop-lit.lit-index c.lit-item.result c.loop-lit.invariant.is_marked (omega arith) c.lit-item.is (omega (arith, low, c.loop-lit.invariant.is_marked.counted)) c.mark_one.ensures.marks;
      touched = c.mark_one.ensures.touched;
      room = omega (arith, more, same, room);
    }
