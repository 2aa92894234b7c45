use Rattle.std.proofs.Common.{◌≡◌, ◌≤◌, length}
use Rattle.book_text.specs.Plain.{HasNoQuote, plain_rows}
use Rattle.book_text.proofs.plain_rows.from_next_row.Given as goal

abbrev pub invariant-blank : goal.invariant-blank
invariant-blank l = record {
  rows : plain_rows l.rest ≡ plain_rows l.text;
  plain : HasNoQuote l.rest;
  within : length l.rest ≤ length l.text;
}

abbrev pub decreases-blank : goal.decreases-blank
decreases-blank l = length l.rest
