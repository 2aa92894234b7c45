use Rattle.std.proofs.Common.{◌*◌, sym, subst}
use Rattle.clause_pool.specs.Clause.{AreBelow}
use Rattle.clause_pool.specs.Derivation.{Derivation}
use Rattle.findings.proofs.CoreLaws.{given_at_first}
use Rattle.findings.proofs.slice_reports.solver_over.Goals as goal

pub new-requires-clause-below : goal.new-requires-clause-below
new-requires-clause-below c = subst (λ (k : Derivation). AreBelow (2 * c.args.vars) k.clauses) (sym c.of-kernel.ensures) c.requires.below

pub returns-clause-given : goal.returns-clause-given
returns-clause-given c = given_at_first c.args.pool.clauses c.args.vars _ c.of-kernel.result c.in_ok-solver.solver c.of-kernel.ensures c.in_ok-solver.ensures
