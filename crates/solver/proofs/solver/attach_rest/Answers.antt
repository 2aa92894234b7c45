use Rattle.std.proofs.Common.{◌*◌, length, ap, ◌∙◌, arith}
use Rattle.solver.proofs.PoolLaws.{attached_more, clause_below}
use Rattle.solver.proofs.solver.attach_rest.Goals as goal

pub loop-engine-preserved : goal.loop-engine-preserved
loop-engine-preserved c =
    let more = c.loop-engine-test.true in (
      ap length c.attach.ensures.extends.same_starts ∙ c.loop-engine.invariant.0,
      attached_more c.loop-engine.engine.clauses c.attach.new.self.clauses c.args.pool.now.clauses c.clauses-at.result c.loop-engine.invariant.1 c.clauses-at.ensures
          (omega (arith, more, c.clauses-at.ensures, c.clauses.ensures, c.len.ensures)) c.in_ok-attach.ensures.clauses,
      c.attach.ensures.extends.same_vars ∙ c.loop-engine.invariant.2,
    )

pub attach-requires-clause-below : goal.attach-requires-clause-below
attach-requires-clause-below c = λ l is_in.
    let low = clause_below (2 * c.args.engine.now.vars) c.args.pool.now.clauses c.clauses-at.result l c.requires.below is_in in
    omega (arith, low, c.loop-engine.invariant.2)
