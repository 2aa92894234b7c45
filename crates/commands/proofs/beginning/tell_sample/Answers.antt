use Rattle.std.proofs.Common.{refl}
use Rattle.book_commands.specs.RunReply.{due_of}
use Rattle.book_commands.specs.Sample.{RepliesToSample}
use Rattle.commands.proofs.Rejudges.{made_or_memory}
use Rattle.commands.proofs.beginning.tell_sample.Goals as goal

pub returns : goal.returns
returns g c = λ kept. record {
  tells = record {
    reply = due_of c.sample_reply-reply.result;
    due = made_or_memory c.sample_reply-reply.result (RepliesToSample c.args.size.now) c.sample_reply-reply.ensures;
    told = c.tell_made.ensures;
  };
  nothing = record { untouched = refl; kept = refl; door = refl };
}
