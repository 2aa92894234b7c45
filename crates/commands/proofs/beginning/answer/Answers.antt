use Rattle.std.proofs.Common.{refl}
use Rattle.book_commands.specs.RunReply.{due_of}
use Rattle.commands.proofs.beginning.answer.Goals as goal

pub returns : goal.returns
returns g c = λ kept. record {
  reply = due_of c.due_reply-reply.result;
  due = c.due_reply-reply.ensures.due;
  told = c.tell_made.ensures;
  source_later = c.due_reply-reply.ensures.source_later;
  files_kept = c.due_reply-reply.ensures.files_kept;
  kept = refl;
  door = refl;
}
