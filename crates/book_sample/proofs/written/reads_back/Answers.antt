use Rattle.book_sample.proofs.BookBack.{book_back}
use Rattle.book_sample.proofs.written.reads_back.Goals as goal

pub returns : goal.returns
returns c = book_back
