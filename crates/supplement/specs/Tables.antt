-- What is kept of the supplementing rules of a book.
--     AreTables b tables     the rules that stand anyway, and the rules of each code, are those of the book
use Rattle.std.specs.Prelude.{length}
use Rattle.book_model.specs.Contents.{Contents}
use Rattle.supplement.specs.declared.tables.CompletionTables.{CompletionTables}
use Rattle.supplement.specs.Occurrences.{AreOccurrences}
use Rattle.supplement.specs.Worklist.{AreStanding}

pub record AreTables (b : Contents) (tables : CompletionTables) : Type 0 where
  pub standing : AreStanding b.supplements tables.standing.items
  pub occurrences : AreOccurrences (length b.codes) b.supplements tables.occurrences
