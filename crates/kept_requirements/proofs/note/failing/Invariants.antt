use Rattle.std.proofs.Common.{◌≡◌, ◌+◌, ◌≤◌, drop}
use Rattle.kept_requirements.specs.Notes.{failing, failing_behind}
use Rattle.kept_requirements.proofs.note.failing.Given as goal

abbrev pub invariant-loop-note : goal.invariant-loop-note
invariant-loop-note l = record {
  counted : l.count + failing_behind l.before (drop l.note-index l.notes) ≡ failing l.notes;
  few : l.count ≤ l.note-index;
}
