use Rattle.book_commands.proofs.days.days_reply.Goals as goal

pub returns-in-Ok : goal.returns-in-Ok
returns-in-Ok c = rw (c.in-Ok.ensures, ← c.as_slice.ensures) c.reply_on_days.ensures
