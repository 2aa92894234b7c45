use Rattle.std.proofs.Common.{◌≡◌, ◌≤◌, ◌+◌, [], length}
use Rattle.std.specs.List.{All}
use Rattle.pb_base.specs.declared.limits.TheConstants.{MOST_TEXT_BYTES}
use Rattle.requirements.specs.Pass.{pass}
use Rattle.requirements.specs.Stated.{stated_with, ids_of, IsShortText}
use Rattle.requirements.proofs.read.state_rows.Given as goal

-- the pass over the rows that are left gives what the whole pass does
abbrev pub invariant-rows : goal.invariant-rows
invariant-rows l = record {
  rest : pass (stated_with l.term) (length l.stated.items + 1) l.stated.items l.rows ≡ pass (stated_with l.term) 1 [] l.fn.rows;
  ids : l.ids ≡ ids_of l.stated.items;
  few : length l.stated.items + length l.rows ≤ MOST_TEXT_BYTES;
  short : All IsShortText l.stated.items;
}

-- each row that is read is one fewer
abbrev pub decreases-rows : goal.decreases-rows
decreases-rows l = length l.rows
