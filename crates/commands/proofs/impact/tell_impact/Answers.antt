use Rattle.std.proofs.Common.{refl}
use Rattle.commands.specs.Impacted.{RepliesToImpact}
use Rattle.commands.proofs.Rejudges.{made_or_memory}
use Rattle.commands.proofs.impact.tell_impact.Goals as goal

pub returns : goal.returns
returns g c = λ kept. record {
  reply = _;
  due = made_or_memory c.impact_reply-reply.result (RepliesToImpact c.args.to.now.book c.args.desk.tables) c.impact_reply-reply.ensures;
  told = c.tell_made-status.ensures;
  rows = c.finish.ensures.rows;
  count = c.finish.ensures.faults;
  untouched = refl;
  door = refl;
}
