use Rattle.book_sample.proofs.lines.put_usage.Goals as goal

pub returns-in-Some : goal.returns-in-Some
returns-in-Some c = rw c.in-Some.is (rw (c.name-own.ensures, c.name-other.ensures) at c.put_all.ensures)
