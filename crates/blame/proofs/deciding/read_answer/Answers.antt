use Rattle.std.proofs.Common.{subst}
use Rattle.clause_pool.specs.Derivation.{Derivation, AllFollow}
use Rattle.solver.specs.Answer.{IsCore}
use Rattle.blame.proofs.GuardLaws.{guarded_refused, guarded_found}
use Rattle.blame.proofs.deciding.read_answer.Goals as goal

pub returns-in-Set : goal.returns-in-Set
returns-in-Set c = λ codes n test h below. guarded_found codes n test c.args.solver.now c.args.lits.now c.in-Set.set h below (rw c.in-Set.is at c.requires.right)

pub returns-in-Closed : goal.returns-in-Closed
returns-in-Closed c = λ codes n test h below.
    let s = c.args.solver.now in
    let core : IsCore s.kernel c.args.lits.now c.in-Closed.at = rw c.in-Closed.is at c.requires.right in
    let follow : AllFollow s.kernel = subst (λ (k : Derivation). AllFollow k) c.kernel.ensures c.pool.ensures.follow in
    guarded_refused codes n test s c.args.lits.now c.in-Closed.at h below follow core

pub returns-in-Spent : goal.returns-in-Spent
returns-in-Spent c = λ codes n test h below. rw c.in-Spent.is at c.requires.right
