use Rattle.change_laws.proofs.ReportLaws.{same_changes}
use Rattle.change_laws.proofs.reports.report_law.Goals as goal

pub returns : goal.returns
returns c = λ first second budget other one two own next none also. same_changes first second budget other one two own next none also
