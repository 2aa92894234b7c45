use Rattle.book_text.proofs.PlainLemmas.{no_rows}
use Rattle.book_text.proofs.plain_rows.PlainRows.none.Goals as goal

pub returns : goal.returns
returns c = no_rows
