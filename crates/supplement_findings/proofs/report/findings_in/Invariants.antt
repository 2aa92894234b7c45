use Rattle.std.proofs.Common.{◌≡◌, ◌+◌, ◌≤◌, drop}
use Rattle.std.specs.Prelude.{count_by}
use Rattle.supplement_findings.specs.Notes.{is_finding}
use Rattle.supplement_findings.proofs.report.findings_in.Given as goal

abbrev pub invariant-loop-note : goal.invariant-loop-note
invariant-loop-note l = (l.count + count_by is_finding (drop l.note-index l.note-items) ≡ count_by is_finding l.note-items) × (l.count ≤ l.note-index)
