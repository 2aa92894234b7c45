use Rattle.std.proofs.Common.{arith}
use Rattle.propagate.proofs.TakeLaws.{item_in}
use Rattle.solver.proofs.assume.assume_each.Goals as goal

pub assume_one-requires-clause-below : goal.assume_one-requires-clause-below
assume_one-requires-clause-below c =
    let low = c.requires.below c.lit-item.result (item_in c.args.assumptions.now c.loop-lit.lit-index c.lit-item.result (omega arith) c.lit-item.is) in
    let vars = c.loop-lit.invariant.1 in
    omega (arith, low, vars)
