use Rattle.book_commands.proofs.BookFileLaws.{found_book}
use Rattle.book_commands.proofs.book_file.read_book_file.Goals as goal

pub returns-in-Ok-clause-book : goal.returns-in-Ok-clause-book
returns-in-Ok-clause-book g c = found_book c.args.file.now _ _ _ c.content_book.result c.in-Ok.ensures.content c.in-Ok.ensures.stays c.content_book.ensures
