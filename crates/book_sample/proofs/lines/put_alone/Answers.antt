use Rattle.book_sample.proofs.lines.put_alone.Goals as goal

pub returns : goal.returns
returns c = rw (c.name-id.ensures, c.code_of-own.ensures, c.code_of-first.ensures, c.code_of-second.ensures, c.code_of-third.ensures) at c.put_all.ensures
