use Rattle.std.proofs.Common.{arith}
use Rattle.propagate.proofs.TakeLaws.{item_in}
use Rattle.propagate.proofs.attach.other_open.Goals as goal

pub overflow_cast-code : goal.overflow_cast-code
overflow_cast-code c =
    let b = c.requires c.lit-item.result (item_in c.args.lits.now c.loop-lit.lit-index c.lit-item.result c.loop-lit-test.true c.lit-item.is) in
    omega (arith, b, c.code-code.ensures.code, c.assigned_law.ensures.small)

pub is_false-requires : goal.is_false-requires
is_false-requires c =
    let b = c.requires c.lit-item.result (item_in c.args.lits.now c.loop-lit.lit-index c.lit-item.result c.loop-lit-test.true c.lit-item.is) in
    omega (arith, b, c.code-code.ensures.code)
