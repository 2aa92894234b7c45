use Rattle.std.proofs.Common.{Bool, List, ◌+◌, subst, sym}
use Rattle.solver.proofs.EndLaws.{AreCodes, codes_none, codes_skip, codes_more}
use Rattle.solver.proofs.solver.true_codes.Goals as goal

pub loop-code-init : goal.loop-code-init
loop-code-init c = codes_none c.args.engine.now.lits c.in_ok-set.set c.args.codes c.in_ok-set.ensures

pub loop-code-preserved-then-not-is_true : goal.loop-code-preserved-then-not-is_true
loop-code-preserved-then-not-is_true c = codes_skip c.args.engine.now.lits c.loop-code.set c.args.codes c.loop-code.code c.is_true.result c.loop-code.invariant c.is_true.ensures c.if-not-is_true.true

pub loop-code-preserved : goal.loop-code-preserved
loop-code-preserved c =
    subst (λ (x : List Bool). AreCodes c.args.engine.now.lits x c.args.codes (c.loop-code.code + 1)) (sym c.with.ensures)
    (codes_more c.args.engine.now.lits c.loop-code.set c.args.codes c.loop-code.code c.is_true.result c.loop-code-test.true c.loop-code.invariant c.is_true.ensures c.if-not-is_true.false)
