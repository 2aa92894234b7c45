use Rattle.book_sample.proofs.lines.put_supplement.Goals as goal

pub returns : goal.returns
returns c = rw (c.name-id.ensures, c.as_bytes-rank.ensures.value, c.format.ensures.text, c.code_of-adds.ensures, c.code_of-first.ensures, c.code_of-second.ensures, c.code_of-third.ensures, c.code_of-fourth.ensures) at c.put_all.ensures
