use Rattle.question_laws.proofs.SupplementReportLaws.{same_report}
use Rattle.question_laws.proofs.supplement_reports.supplement_law.Goals as goal

pub returns : goal.returns
returns c = λ b budget other one two book first second none also. same_report b budget other one two book first second none also
