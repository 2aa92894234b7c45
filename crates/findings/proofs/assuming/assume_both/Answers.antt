use Rattle.std.proofs.Common.{ℕ, List, sym, subst}
use Rattle.clausify.specs.declared.question.Question.TheVariants.{Ambiguous}
use Rattle.findings.specs.Core.{Assumes}
use Rattle.findings.proofs.AssumeLaws.{assumes_both}
use Rattle.findings.proofs.assuming.assume_both.Goals as goal

pub returns : goal.returns
returns c = λ b cs vars day position are _.
    subst (λ (ls : List ℕ). Assumes b cs vars day (Ambiguous position c.args.first c.args.second) ls) (sym c.in_ok-assume_two.ensures)
    (assumes_both b cs vars day position c.args.first c.args.second c.in-Some.one c.in-Some-usage_of.other (c.in-Some.ensures b cs vars are) (c.in-Some-usage_of.ensures b cs vars are))
