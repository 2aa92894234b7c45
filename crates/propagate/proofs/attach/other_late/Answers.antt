use Rattle.std.proofs.Common.{arith}
use Rattle.propagate.proofs.TakeLaws.{item_in}
use Rattle.propagate.proofs.attach.other_late.Goals as goal

pub overflow_cast-code : goal.overflow_cast-code
overflow_cast-code c =
    let b = c.requires c.lit-item.result (item_in c.args.lits.now c.loop-lit.lit-index c.lit-item.result c.loop-lit-test.true c.lit-item.is) in
    omega (arith, b, c.code-code.ensures.code, c.assigned_law.ensures.small)

pub was_false-requires : goal.was_false-requires
was_false-requires c =
    let b = c.requires c.lit-item.result (item_in c.args.lits.now c.loop-lit.lit-index c.lit-item.result c.loop-lit-test.true c.lit-item.is) in
    omega (arith, b, c.code-code.ensures.code)
