use Rattle.std.proofs.Common.{◌≡◌, ◌≤◌, ◌+◌, length, drop}
use Rattle.book_text.specs.PartialBook.{records_of, IsGrouped}
use Rattle.book_text.specs.Said.{said_pass}
use Rattle.book_text.proofs.second_pass.resolve_all.Given as goal

-- the pass over what the rows left say gives what the whole pass does
abbrev pub invariant-loop-k : goal.invariant-loop-k
invariant-loop-k l = record {
  few : length l.book.variants.items ≤ l.k;
  rest : said_pass l.names (l.k + 2) (records_of l.book) (drop l.k l.entries) (drop l.k l.texts)
      ≡ said_pass l.names 2 (records_of l.fn.book) l.entries l.texts;
  grouped : IsGrouped (length l.names.positions) l.book;
}
