use Rattle.std.proofs.Common.{◌<◌, length, Ok, sym, ap, ◌∙◌, arith}
use Rattle.clause_pool.proofs.RunLaws.{step_lacks, step_makes}
use Rattle.clause_pool.proofs.run.step.Goals as goal

pub returns-then-not-found : goal.returns-then-not-found
returns-then-not-found c =
    let within : c.args.pair.with < length c.args.pool.now.clauses = omega arith in
    step_lacks c.args.running.now c.args.pool.now.clauses c.args.place c.args.pair.lit c.args.pair.with c.lits.result.now within c.lits.ensures.clause
    (sym c.in_ok-found.ensures.pivot ∙ c.if-not-found.true)

pub returns : goal.returns
returns c =
    let within : c.args.pair.with < length c.args.pool.now.clauses = omega arith in
    step_makes c.args.running.now c.args.pool.now.clauses c.args.place c.args.pair.lit c.args.pair.with c.lits.result.now within c.lits.ensures.clause
    (sym c.if-not-has.ensures) (sym c.in_ok-found.ensures.pivot ∙ c.if-not-found.false)
    ∙ ap Ok (sym c.in_ok-found.ensures.resolvent)
