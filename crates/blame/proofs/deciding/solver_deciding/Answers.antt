use Rattle.std.proofs.Common.{refl, ap, ◌∙◌}
use Rattle.chains.specs.Growth.{given_of}
use Rattle.solver.specs.Solver.{Solving}
use Rattle.item_search.specs.Search.{IsMadeOf}
use Rattle.item_search.proofs.EncodedLaws.{made_below, made_of}
use Rattle.blame.proofs.deciding.solver_deciding.Goals as goal

pub new-requires-clause-below : goal.new-requires-clause-below
new-requires-clause-below c =
    made_below c.into_parts-pool.result.vars c.args.encoder.next c.into_parts-pool.result.pool.clauses c.args.encoder.pool.clauses c.of-kernel.result
    c.of-kernel.ensures c.into_parts-pool.ensures.clauses c.into_parts-pool.ensures.vars c.requires.below

pub returns-clause-clauses : goal.returns-clause-clauses
returns-clause-clauses c =
    let s : Solving = record { kernel = c.of-kernel.result; vars = c.into_parts-pool.result.vars; codes = c.args.encoder.truth } in
    let made : IsMadeOf c.args.encoder s =
    made_of c.args.encoder c.into_parts-pool.result.vars c.into_parts-pool.result.pool.clauses c.of-kernel.result s
    c.of-kernel.ensures c.into_parts-pool.ensures.clauses c.into_parts-pool.ensures.vars refl in
    ap (λ (t : Solving). given_of t.kernel) c.in_ok-solver.ensures ∙ made.clauses
