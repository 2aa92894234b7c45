use Rattle.std.proofs.Common.{◌<◌, length, arith, ◌∙◌}
use Rattle.propagate.specs.Trail.{level}
use Rattle.chains.proofs.GrowthLaws.{extends_twice}
use Rattle.solver.specs.Search.{IsAssumed, IsLearning, IsSettled}
use Rattle.solver.proofs.LearnLaws.{all_new_more}
use Rattle.solver.proofs.run.run.Goals as goal

pub loop-learnt-preserved : goal.loop-learnt-preserved
loop-learnt-preserved c =
    let a = c.args.assumptions.now in
    let d = c.find.new.depth in
    let t = c.find.new.engine in
    let found : IsLearning t c.in-Learning.at × IsSettled t × IsAssumed a d t × (d < level t) = rw c.in-Learning.is at c.in_ok-find.ensures.found in
    let before = c.loop-learnt.invariant.0.counted in
    let one = c.in_ok-go_on.ensures.one_more in
    let more = c.loop-learnt-test.true in (
      record {
        extends = extends_twice c.args.kernel.now c.loop-learnt.kernel c.go_on.new.kernel c.loop-learnt.invariant.0.extends c.go_on.ensures.extends;
        counted = omega (arith, before, one);
        fresh = all_new_more a (length c.args.kernel.now.clauses) c.loop-learnt.kernel.clauses c.go_on.new.kernel.clauses c.go_on.ensures.extends.more c.go_on.ensures.extends.clauses one c.loop-learnt.invariant.0.fresh
            (c.in_ok-go_on.ensures.fresh a d found.3 found.2);
      },
      c.in_ok-go_on.ensures.ready,
      c.in_ok-go_on.ensures.settled,
      c.in_ok-go_on.ensures.assumed a d found.2,
      c.go_on.ensures.vars ∙ c.find.ensures.vars ∙ c.loop-learnt.invariant.4,
      omega (arith, more),
    )
