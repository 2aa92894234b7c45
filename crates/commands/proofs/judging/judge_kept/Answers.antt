use Rattle.std.proofs.Common.{refl}
use Rattle.commands.specs.Rejudged.{RepliesToRejudge}
use Rattle.commands.proofs.Rejudges.{made_or_memory}
use Rattle.commands.proofs.judging.judge_kept.Goals as goal

pub returns : goal.returns
returns g c = λ kept. record {
  reply = _;
  due = made_or_memory c.rejudge_reply-reply.result (RepliesToRejudge c.args.asked.now c.args.desk.tables) c.rejudge_reply-reply.ensures;
  told = c.tell_made-status.ensures;
  rows = c.finish.ensures.rows;
  count = c.finish.ensures.faults;
  untouched = refl;
  door = refl;
}
