use Rattle.book_commands.proofs.CompareLaws.{book_released}
use Rattle.book_commands.proofs.comparing.released.Goals as goal

pub returns-in-Ok-clause-book : goal.returns-in-Ok-clause-book
returns-in-Ok-clause-book c = book_released c.args.text.now c.in-Ok.copy c.try_release.result c.in-Ok.ensures c.try_release.ensures.text c.try_release.ensures.release

pub returns-in-Ok-clause-refused : goal.returns-in-Ok-clause-refused
returns-in-Ok-clause-refused c = rw (c.in-Ok.ensures, c.clauses.ensures.value) at c.try_release.ensures.refused
