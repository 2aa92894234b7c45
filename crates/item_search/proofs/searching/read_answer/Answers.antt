use Rattle.std.proofs.Common.{subst}
use Rattle.chains.specs.Growth.{given_of}
use Rattle.clause_pool.specs.Derivation.{Derivation, AllFollow}
use Rattle.solver.specs.Answer.{Begins, IsCore, IsSpent}
use Rattle.item_search.proofs.SearchLaws.{set_passes, core_refused}
use Rattle.item_search.proofs.searching.read_answer.Goals as goal

pub returns-in-Set : goal.returns-in-Set
returns-in-Set c = λ n test codes.
    let s = c.args.solver.now in
    let begins : Begins (given_of s.kernel) c.args.lits.now s.codes c.in-Set.set = rw c.in-Set.is at c.requires.right in
    set_passes n test s codes c.args.lits.now c.requires.below c.in-Set.set begins

pub returns-in-Closed : goal.returns-in-Closed
returns-in-Closed c = λ n test codes.
    let s = c.args.solver.now in
    let core : IsCore s.kernel c.args.lits.now c.in-Closed.at = rw c.in-Closed.is at c.requires.right in
    let follow : AllFollow s.kernel = subst (λ (k : Derivation). AllFollow k) c.kernel.ensures c.pool.ensures.follow in
    core_refused n test s codes c.args.lits.now c.requires.below c.in-Closed.at follow core

pub returns-in-Spent : goal.returns-in-Spent
returns-in-Spent c = λ n test codes.
    let s = c.args.solver.now in
    let spent : IsSpent s.vars (given_of s.kernel) c.args.lits.now c.args.budget c.in-Spent.learnt.clauses = rw c.in-Spent.is at c.requires.right in
    spent
