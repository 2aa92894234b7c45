use Rattle.solver.proofs.PoolLaws.{onwards_twice}
use Rattle.findings.proofs.SolverLaws.{over_onwards}
use Rattle.findings.proofs.pairs.answer_pairs.Goals as goal

pub answer-requires-clause-over : goal.answer-requires-clause-over
answer-requires-clause-over c =
    over_onwards c.args.book.now c.args.task.slice c.loop-place.solver c.refute_pairs.new.solver c.loop-place.invariant.over c.refute_pairs.ensures

pub loop-place-preserved : goal.loop-place-preserved
loop-place-preserved c =
    let b = c.args.book.now in
    let s = c.args.task.slice in
    let mid = c.refute_pairs.new.solver in
    let now = c.answer.new.solver in
    record {
      onwards =
          onwards_twice c.args.solver.now mid now
          (onwards_twice c.args.solver.now c.loop-place.solver mid c.loop-place.invariant.onwards c.refute_pairs.ensures) c.answer.ensures.onwards;
      over = over_onwards b s mid now (over_onwards b s c.loop-place.solver mid c.loop-place.invariant.over c.refute_pairs.ensures) c.answer.ensures.onwards;
      sets = c.answer.ensures.sets;
    }
