use Rattle.std.proofs.Common.{◌∙◌, ap, ℕ, List, drop}
use Rattle.solver.proofs.EndLaws.{spent_of}
use Rattle.solver.proofs.solver.learnt_from.Goals as goal

pub returns : goal.returns
returns c =
    spent_of c.args.kernel.now c.args.vars c.args.assumptions.now c.args.budget c.args.first c.in_ok-learnt.learnt.clauses c.pool-pool.ensures.follow c.requires.below c.requires.given c.requires.count c.requires.fresh
    (c.in_ok-learnt.ensures ∙ ap (λ (cs : List (List ℕ)). drop c.args.first cs) c.pool-pool.ensures.clauses)
