use Rattle.std.proofs.Common.{List, ◌≤◌, length, sym, subst, ◌∙◌, arith}
use Rattle.std.proofs.lemmas.List.{take_all}
use Rattle.clausify.specs.declared.question.Asked.{Asked}
use Rattle.solver.proofs.PoolLaws.{onwards_twice}
use Rattle.findings.specs.Answering.{AreTold, inquiry}
use Rattle.findings.proofs.SolverLaws.{over_onwards}
use Rattle.findings.proofs.ToldLaws.{told_next, told_next_same}
use Rattle.findings.proofs.slice.ask_each.Goals as goal

pub loop-place-preserved-then-not-is_asked : goal.loop-place-preserved-then-not-is_asked
loop-place-preserved-then-not-is_asked c = record {
  onwards = c.loop-place.invariant.onwards;
  over = c.loop-place.invariant.over;
  sets = c.loop-place.invariant.sets;
  told =
      told_next_same (inquiry c.args.book.now c.args.task.effort) c.args.task.slice c.args.later.now c.loop-place.place c.index-later-place.result c.loop-place.told c.loop-place.solver.kernel.clauses
      (omega arith) c.index-later-place.is (sym c.is_asked.ensures ∙ c.if-not-is_asked.true) c.loop-place.invariant.told;
}

pub loop-place-preserved : goal.loop-place-preserved
loop-place-preserved c = record {
  onwards = onwards_twice c.args.solver.now c.loop-place.solver c.answer.new.solver c.loop-place.invariant.onwards c.answer.ensures.onwards;
  over = over_onwards c.args.book.now c.args.task.slice c.loop-place.solver c.answer.new.solver c.loop-place.invariant.over c.answer.ensures.onwards;
  sets = c.answer.ensures.sets;
  told =
      told_next (inquiry c.args.book.now c.args.task.effort) c.args.task.slice c.args.later.now c.loop-place.place c.index-later-place.result c.loop-place.told c.put.new.self
      c.loop-place.solver.kernel c.answer.new.solver.kernel c.in_ok-outcome.outcome
      (omega arith) c.index-later-place.is (sym c.is_asked.ensures ∙ c.if-not-is_asked.false) c.loop-place.invariant.told c.answer.ensures.onwards.extends
      c.in_ok-outcome.ensures.outcome c.in_ok-put.ensures.notes c.in_ok-put.ensures.closed;
}

pub returns-clause-told : goal.returns-clause-told
returns-clause-told c =
    let done : length c.args.later.now ≤ c.loop-place.place = omega arith in
    subst (λ (qs : List Asked). AreTold (inquiry c.args.book.now c.args.task.effort) c.args.task.slice qs c.loop-place.told c.loop-place.solver.kernel.clauses)
    (take_all c.loop-place.place c.args.later.now done) c.loop-place.invariant.told
