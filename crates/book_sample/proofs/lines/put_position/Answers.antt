use Rattle.book_sample.proofs.lines.put_position.Goals as goal

pub returns : goal.returns
returns c = rw c.name-id.ensures at c.put_all.ensures
