use Rattle.supplement_findings.proofs.EndLaws.{one_end_law}
use Rattle.supplement_findings.proofs.laws.one_end.Goals as goal

pub returns : goal.returns
returns c = one_end_law
