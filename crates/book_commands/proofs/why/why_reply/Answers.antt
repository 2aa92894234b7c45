use Rattle.book_commands.proofs.why.why_reply.Goals as goal

pub returns-in-Ok : goal.returns-in-Ok
returns-in-Ok c = rw (c.in-Ok.ensures, ← c.as_slice.ensures) c.order_reply.ensures
