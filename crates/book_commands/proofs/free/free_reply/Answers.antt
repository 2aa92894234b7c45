use Rattle.book_commands.proofs.free.free_reply.Goals as goal

pub returns-in-Ok : goal.returns-in-Ok
returns-in-Ok c = rw (c.in-Ok.ensures, ← c.as_slice.ensures) c.beside_reply.ensures
