use Rattle.std.proofs.Common.{All, take}
use Rattle.std.specs.List.{AllZip}
use Rattle.rules_met.specs.Met.{IsCounted}
use Rattle.book_changes.specs.Changes.{IsRun}
use Rattle.book_changes.proofs.run_work.notes_on.Given as goal

abbrev pub invariant-loop-run : goal.invariant-loop-run
invariant-loop-run l = record {
  own : All (IsCounted l.first.book) l.own;
  others : All (IsCounted l.second.book) l.others;
  notes : AllZip (IsRun l.first.book l.second.book l.budget) (take l.run-index l.runs) l.notes.items;
}
