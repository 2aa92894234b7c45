use Rattle.question_laws.proofs.ReportLaws.{same_report}
use Rattle.question_laws.proofs.reports.report_law.Goals as goal

pub returns : goal.returns
returns c = λ b ask budget other one two term first second none also. same_report b ask budget other one two term first second none also
