use Rattle.supplement_findings.proofs.QuestionLaws.{unasked_law}
use Rattle.supplement_findings.proofs.laws.unasked_never_swap.Goals as goal

pub returns : goal.returns
returns c = unasked_law
