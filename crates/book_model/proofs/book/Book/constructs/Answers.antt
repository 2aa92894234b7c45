use Rattle.std.proofs.Common.{arith}
use Rattle.book_model.specs.BookParts.{contents_of}
use Rattle.book_model.proofs.BookLimits.{constructs_below}
use Rattle.book_model.proofs.book.Book.constructs.Goals as goal

pub returns-clause-limit : goal.returns-clause-limit
returns-clause-limit c = omega (arith, constructs_below (contents_of c.self.inside.parts) c.self.invariant.book)
