use Rattle.std.proofs.Common.{◌≡◌, List}
use Rattle.pb_base.specs.InParts.{InParts}
use Rattle.findings.specs.declared.report.Note.{Note}
use Rattle.findings.proofs.slice_reports.joined.Given as goal

abbrev pub invariant-loop-report : goal.invariant-loop-report
invariant-loop-report l = InParts (λ (report own : List Note). report ≡ own) l.yielded l.all.items
