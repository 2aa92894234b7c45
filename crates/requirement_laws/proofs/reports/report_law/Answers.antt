use Rattle.requirement_laws.proofs.ReportLaws.{same_report}
use Rattle.requirement_laws.proofs.reports.report_law.Goals as goal

pub returns : goal.returns
returns c = λ b budget other rs one two first second none also. same_report b budget other rs one two first second none also
