use Rattle.std.proofs.Common.{◌≡◌, ◌*◌, ap, ◌∙◌, arith}
use Rattle.clause_pool.specs.Clause.{has}
use Rattle.solver.proofs.EndLaws.{value_is}
use Rattle.solver.proofs.solver.is_true.Goals as goal

pub returns : goal.returns
returns c =
    let e : c.new.result ≡ 2 * c.args.code = omega (arith, c.new.ensures) in
    value_is c.args.engine.now.lits c.new.result c.value.result c.eq.result c.value.ensures c.eq.ensures ∙ ap (has c.args.engine.now.lits) e
