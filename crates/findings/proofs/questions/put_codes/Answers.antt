use Rattle.std.proofs.Common.{arith}
use Rattle.findings.proofs.QuestionSteps.{codes_step}
use Rattle.findings.proofs.questions.put_codes.Goals as goal

pub loop-code-preserved : goal.loop-code-preserved
loop-code-preserved c =
    codes_step c.loop-code.questions.items c.push.new.self.items c.push-in-loop-code.new.self.items _ c.loop-code.code c.args.codes.now
    (omega arith) c.loop-code.invariant c.in_ok-push.ensures.items c.in_ok-push-2.ensures.items
