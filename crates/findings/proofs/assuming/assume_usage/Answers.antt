use Rattle.std.proofs.Common.{ℕ, List, sym, subst}
use Rattle.clausify.specs.declared.question.Question.TheVariants.{Superfluous}
use Rattle.findings.specs.Core.{Assumes}
use Rattle.findings.proofs.AssumeLaws.{assumes_usage}
use Rattle.findings.proofs.assuming.assume_usage.Goals as goal

pub returns : goal.returns
returns c = λ b cs vars day are _.
    subst (λ (ls : List ℕ). Assumes b cs vars day (Superfluous c.args.variant) ls) (sym c.in_ok-assume_one.ensures)
    (assumes_usage b cs vars day c.args.variant c.in-Some.lit (c.in-Some.ensures b cs vars are))
