use Rattle.std.proofs.Common.{take, All}
use Rattle.std.specs.List.{AllZip}
use Rattle.rules_met.specs.Met.{IsCounted}
use Rattle.kept_requirements.specs.Notes.{IsRow}
use Rattle.kept_requirements.proofs.rows.rows_of.Given as goal

abbrev pub invariant-loop-slice : goal.invariant-loop-slice
invariant-loop-slice l = record {
  so_far : AllZip (IsRow l.book l.budget l.requirements) (take l.slice-index l.slices) l.rows.items;
  counted : All (IsCounted l.book) l.sets;
}
