use Rattle.item_search.proofs.EncodedLaws.{made_below, made_of, made_over}
use Rattle.item_search.proofs.searching.solver_over.Goals as goal

pub new-requires-clause-below : goal.new-requires-clause-below
new-requires-clause-below c =
    made_below c.into_parts-pool.result.vars c.args.encoder.next c.into_parts-pool.result.pool.clauses c.args.encoder.pool.clauses c.of-kernel.result
    c.of-kernel.ensures c.into_parts-pool.ensures.clauses c.into_parts-pool.ensures.vars c.requires.below

pub returns-clause-made : goal.returns-clause-made
returns-clause-made c =
    made_of c.args.encoder c.into_parts-pool.result.vars c.into_parts-pool.result.pool.clauses c.of-kernel.result c.in_ok-solver.solver
    c.of-kernel.ensures c.into_parts-pool.ensures.clauses c.into_parts-pool.ensures.vars c.in_ok-solver.ensures

pub returns-clause-over : goal.returns-clause-over
returns-clause-over c = λ is h.
    made_over is c.args.encoder c.in_ok-solver.solver h
    (made_of c.args.encoder c.into_parts-pool.result.vars c.into_parts-pool.result.pool.clauses c.of-kernel.result c.in_ok-solver.solver
    c.of-kernel.ensures c.into_parts-pool.ensures.clauses c.into_parts-pool.ensures.vars c.in_ok-solver.ensures)
