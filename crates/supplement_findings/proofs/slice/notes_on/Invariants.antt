use Rattle.std.proofs.Common.{◌-◌, ◌≤◌, length, take, All}
use Rattle.pb_base.specs.InParts.{InParts}
use Rattle.supplement_findings.specs.Answering.{IsBuilt, inquiry}
use Rattle.supplement_findings.specs.Notes.{OwnNotes}
use Rattle.supplement_findings.proofs.slice.notes_on.Given as goal

abbrev pub invariant-loop-at : goal.invariant-loop-at
invariant-loop-at l = record {
  within : l.at ≤ length l.questions;
  parts : InParts (OwnNotes (inquiry l.book l.task.budget) l.task.slice) (take l.at l.questions) l.notes.items;
  built : All (IsBuilt l.book l.task.slice.first) l.sets;
}

abbrev pub decreases-loop-at : goal.decreases-loop-at
decreases-loop-at l = length l.questions - l.at
