use Rattle.std.proofs.Common.{arith}
use Rattle.solver.proofs.TouchLaws.{latest_starts, latest_behind, latest_before}
use Rattle.solver.proofs.closing.last_touched.Goals as goal
use Rattle.solver.proofs.closing.last_touched.Goals.{then-place-behind, else-place-behind}

pub loop-lit-init : goal.loop-lit-init
loop-lit-init c = latest_starts c.args.engine.now.lits c.args.marks.now c.args.end

pub loop-lit-preserved : goal.loop-lit-preserved
loop-lit-preserved c = elim c.if-place-behind.branch [
  | then-place-behind w ↦
      latest_behind c.args.engine.now.lits c.args.marks.now c.args.touched.now c.loop-lit.lit-index c.lit-item.result c.args.end c.loop-lit.behind c.if-place-behind.behind c.in-Some.place c.place_before.result c.loop-lit.invariant (omega arith) c.lit-item.is
      c.in-Some.is c.in-Some.ensures.found c.place_before.ensures.only w.if-place-behind.true w.behind-is
  | else-place-behind w ↦
      latest_before c.args.engine.now.lits c.args.marks.now c.args.touched.now c.loop-lit.lit-index c.lit-item.result c.args.end c.loop-lit.behind c.if-place-behind.behind c.in-Some.place c.place_before.result c.loop-lit.invariant (omega arith) c.lit-item.is
      c.in-Some.is c.in-Some.ensures.found c.place_before.ensures.only w.if-place-behind.false w.behind-is
]
