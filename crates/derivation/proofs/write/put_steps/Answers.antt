use Rattle.std.proofs.Common.{◌<◌, ◌≤◌, ap, length, arith}
use Rattle.derivation.proofs.TextLaws.{no_steps, one_step, all_steps}
use Rattle.derivation.proofs.write.put_steps.Goals as goal

pub loop-at-init : goal.loop-at-init
loop-at-init c = no_steps c.args.kernel.now c.args.text.now c.given-at.result c.given-at.ensures.value

pub put_step-requires : goal.put_step-requires
put_step-requires c = record { derived = c.loop-at.invariant.derived; there = omega (arith, ap length c.pool-pool.ensures.clauses, c.len-at-end.ensures) }

pub loop-at-preserved : goal.loop-at-preserved
loop-at-preserved c =
    let inside : c.loop-at.at < length c.args.kernel.now.clauses = omega (arith, ap length c.pool-pool.ensures.clauses, c.len-at-end.ensures) in
    one_step c.args.kernel.now c.args.text.now c.loop-at.text c.put_step.new.text c.loop-at.at c.pool-pool.ensures.derived c.loop-at.invariant inside
    c.in_ok-put_step.ensures.text c.in_ok-put_step.ensures.fit

pub returns : goal.returns
returns c =
    let past : length c.args.kernel.now.clauses ≤ c.loop-at.at = omega (arith, ap length c.pool-pool.ensures.clauses, c.len-at-end.ensures, c.given-at.ensures.within) in
    let whole = all_steps c.args.kernel.now c.args.text.now c.loop-at.text c.loop-at.at c.pool-pool.ensures.derived c.loop-at.invariant past in
    record { text = whole.text; fit = whole.fit; derived = c.pool-pool.ensures.derived }
