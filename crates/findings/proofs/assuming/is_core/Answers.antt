use Rattle.std.proofs.Common.{List, ℕ, [], ◌++◌, get_or, length, ap, ◌∙◌, arith}
use Rattle.findings.proofs.AssumeLaws.{core_by}
use Rattle.findings.proofs.assuming.is_core.Goals as goal

pub returns-clause-core : goal.returns-clause-core
returns-clause-core c = λ known.
    core_by c.args.kernel.now (c.args.these.now ++ c.args.those.now) c.args.at c.lits.result.now c.are_complements.result
    (omega (arith, ap length c.pool-pool.ensures.clauses))
    (c.lits.ensures.clause ∙ ap (λ (cs : List (List ℕ)). get_or cs c.args.at []) c.pool-pool.ensures.clauses)
    c.are_complements.ensures known
