use Rattle.std.proofs.Common.{◌<◌, length, arith, refl}
use Rattle.propagate.proofs.TakeLaws.{item_in}
use Rattle.solver.proofs.MarkLaws.{unmarked_more}
use Rattle.solver.proofs.marks.unmark.Goals as goal

pub index_mut-requires : goal.index_mut-requires
index_mut-requires c =
    let low : c.lit-item.result < length c.args.marks.now.items = c.requires.below c.lit-item.result (item_in c.args.lits.now c.loop-lit.lit-index c.lit-item.result (omega arith) c.lit-item.is) in
    omega (arith, low, c.loop-lit.invariant.counted)

pub loop-lit-preserved : goal.loop-lit-preserved
loop-lit-preserved c =
    let low : c.lit-item.result < length c.args.marks.now.items = c.requires.below c.lit-item.result (item_in c.args.lits.now c.loop-lit.lit-index c.lit-item.result (omega arith) c.lit-item.is) in
    rw c.code.ensures.code (unmarked_more c.args.marks.now.items c.loop-lit.marks.items _ c.args.lits.now c.loop-lit.lit-index c.lit-item.result c.loop-lit.invariant (omega arith) c.lit-item.is (omega (arith, low, c.loop-lit.invariant.counted)) refl)
