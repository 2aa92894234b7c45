use Rattle.std.proofs.Common.{arith}
use Rattle.clausify.proofs.Remaining.{codes_step}
use Rattle.clausify.proofs.goals.ask_codes.Goals as goal

pub loop-code-preserved : goal.loop-code-preserved
loop-code-preserved c =
    codes_step c.loop-code.asked.items c.push.new.self.items c.push-in-loop-code.new.self.items _ c.loop-code.code c.new.result c.new-in-loop-code.result c.args.codes.now
    (omega arith) c.new.ensures c.new-in-loop-code.ensures c.loop-code.invariant c.in_ok-push.ensures.items c.in_ok-push-2.ensures.items
