use Rattle.std.proofs.Common.{◌<◌, ◌≤◌, length, arith, ◌∙◌}
use Rattle.clause_pool.proofs.ClauseLaws.{clause_of-rising}
use Rattle.clause_pool.proofs.RunLaws.{chain_unstarted, running_starts, running_refused, leaves_passed_on}
use Rattle.clause_pool.proofs.run.run_chain.Goals as goal

pub returns-then-start-len : goal.returns-then-start-len
returns-then-start-len c =
    chain_unstarted _ _ _ (let past : length c.args.pool.now.clauses ≤ c.args.start = omega arith in past)

pub loop-k-init : goal.loop-k-init
loop-k-init c =
    let within : c.args.start < length c.args.pool.now.clauses = omega arith in
    running_starts _ _ _ _ within (c.in_ok-begin.ensures ∙ clause_of-rising c.lits.result.now c.lits.ensures.rising ∙ c.lits.ensures.clause)

pub returns-in_err-step : goal.returns-in_err-step
returns-in_err-step c =
    leaves_passed_on c.from_residual-in_err-step.result c.in_err-step.field-0.0 _ _ c.step.new.running _ c.from_residual-in_err-step.ensures
    (running_refused _ _ _ _ _ c.loop-k.invariant c.index-pairs-k.result c.loop-k-test.true c.index-pairs-k.is)
    c.in_err-step.ensures
