use Rattle.supplement_findings.proofs.QuestionLaws.{calm_law}
use Rattle.supplement_findings.proofs.laws.calm_where_none_is_found.Goals as goal

pub returns : goal.returns
returns c = calm_law
