use Rattle.std.proofs.Common.{◌≡◌, ℕ, ◌+◌, ◌-◌, ◌≤◌, List, length}
use Rattle.clause_pool.specs.Derivation.{Derivation}
use Rattle.solver.specs.Search.{IsReady, IsAssumed, IsSettled, AllNew}
use Rattle.chains.specs.Growth.{Extends}
use Rattle.solver.proofs.run.run.Given as goal

pub record Progress (old new : Derivation) (assumptions : List ℕ) (learnt : ℕ) : Type 0 where
  pub extends : Extends old new
  pub counted : length new.clauses ≡ length old.clauses + learnt
  pub fresh : AllNew assumptions (length old.clauses) new.clauses

abbrev pub invariant-loop-learnt : goal.invariant-loop-learnt
invariant-loop-learnt l = Progress l.initial.kernel l.kernel l.assumptions l.learnt × IsReady l.kernel.clauses l.engine l.resolution.marks.items × IsSettled l.engine × IsAssumed l.assumptions l.depth l.engine × (l.engine.vars ≡ l.initial.engine.vars) × (l.learnt ≤ l.budget)

abbrev pub decreases-loop-learnt : goal.decreases-loop-learnt
decreases-loop-learnt l = l.budget - l.learnt
