use Rattle.std.proofs.Common.{inl, inr, arith}
use Rattle.propagate.proofs.TakeLaws.{one_more_item}
use Rattle.book_tests.proofs.trails.are_below.Goals as goal

pub loop-lit-preserved : goal.loop-lit-preserved
loop-lit-preserved c = λ code is_in. elim (one_more_item c.args.lits.now c.loop-lit.lit-index c.lit-item.result code c.loop-lit-test.true c.lit-item.is is_in) [
  | inl before ↦ c.loop-lit.invariant code before
  | inr same ↦ omega (arith, same, c.var.ensures, c.if-var-vars.false)
]
