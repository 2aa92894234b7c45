use Rattle.change_laws.proofs.ComparisonLaws.{same_comparison}
use Rattle.change_laws.proofs.comparisons.comparison_law.Goals as goal

pub returns : goal.returns
returns c = λ first second day budget other one two h k none also. same_comparison first second day budget other one two h k none also
