use Rattle.std.proofs.Common.{refl, sym, subst}
use Rattle.clause_pool.specs.Derivation.{Derivation, AllFollow}
use Rattle.chains.specs.Growth.{given_of}
use Rattle.findings.specs.Answering.{inquiry}
use Rattle.findings.specs.Core.{OwnOf}
use Rattle.findings.specs.Outcomes.{notes_of}
use Rattle.findings.specs.declared.outcome.Outcome.{Outcome}
use Rattle.findings.proofs.CoreLaws.{core_false}
use Rattle.findings.proofs.CoreTold.{none_told}
use Rattle.findings.proofs.core_report.closed_outcome.Goals as goal

pub returns : goal.returns
returns c =
    let i = inquiry c.args.book.now c.args.asking.task.effort in
    let s = c.args.asking.task.slice in
    let now = c.args.solver.now in
    let follow : AllFollow now.kernel = subst (λ (k : Derivation). AllFollow k) c.kernel.ensures c.pool.ensures.follow in
    subst (λ (o : Outcome). OwnOf i s c.args.question (notes_of o)) (sym c.from_none.ensures)
    (none_told i s c.args.question
    (c.requires.asks.none (λ a sat all. core_false (given_of now.kernel) a c.args.all.now now.kernel c.args.at refl follow c.requires.core sat all)))
