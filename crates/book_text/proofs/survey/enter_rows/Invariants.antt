use Rattle.std.proofs.Common.{◌≡◌, ◌≤◌, ◌+◌, ◌++◌, List, length}
use Rattle.pb_base.specs.declared.limits.TheConstants.{MOST_TEXT_BYTES}
use Rattle.book_text.specs.FirstPass.{entered_row}
use Rattle.book_text.specs.Pass.{pass}
use Rattle.book_text.specs.Rows.{Row, IsShort}
use Rattle.book_text.specs.Said.{AreSaid}
use Rattle.book_text.proofs.survey.enter_rows.Given as goal

-- the rows are those that were read and those that are left; the pass over the latter gives what the whole pass does
abbrev pub invariant-rows : goal.invariant-rows
invariant-rows l = record {
  rest : pass (entered_row l.heading) (length l.entries.items + 2) l.names l.rows ≡ pass (entered_row l.heading) 2 l.fn.names l.fn.rows;
  said : (read : List Row) × (l.fn.rows ≡ read ++ l.rows) × AreSaid l.heading read l.entries.items l.texts;
  few : length l.entries.items + length l.rows ≤ MOST_TEXT_BYTES;
  short : IsShort l.texts;
}

-- each row that is read is one fewer
abbrev pub decreases-rows : goal.decreases-rows
decreases-rows l = length l.rows
