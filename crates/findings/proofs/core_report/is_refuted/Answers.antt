use Rattle.std.proofs.Common.{◌++◌, refl, subst}
use Rattle.clause_pool.specs.Derivation.{Derivation, AllFollow}
use Rattle.chains.specs.Growth.{given_of}
use Rattle.solver.specs.Answer.{IsCore}
use Rattle.findings.proofs.CoreLaws.{core_false}
use Rattle.findings.proofs.core_report.is_refuted.Goals as goal

pub returns-in-Some : goal.returns-in-Some
returns-in-Some c = λ known asks.
    let ls = c.args.asking.on.now ++ c.args.assumed.now in
    let now = c.args.solver.now in
    let follow : AllFollow now.kernel = subst (λ (k : Derivation). AllFollow k) c.kernel-kernel.ensures c.is_core.ensures.follow in
    let core : IsCore now.kernel ls c.in-Some.at = subst (λ (k : Derivation). IsCore k ls c.in-Some.at) c.kernel-kernel.ensures (c.is_core.ensures.core known) in
    asks.none (λ a sat all. core_false (given_of now.kernel) a ls now.kernel c.in-Some.at refl follow core sat all)
