use Rattle.std.proofs.Common.{Bool, not, ◌||◌, sym, ap, ◌∙◌}
use Rattle.clause_pool.specs.Literal.{complement}
use Rattle.clause_pool.specs.Clause.{has}
use Rattle.clause_pool.proofs.ClauseLaws.{has-append}
use Rattle.findings.proofs.assuming.lacks_complement.Goals as goal

pub returns-then-in_these : goal.returns-then-in_these
returns-then-in_these c =
    let l = complement c.args.lit in
    ap not
    (ap (λ (t : Bool). t || has c.args.those.now l) (sym c.if-in_these.true ∙ c.has_complement-in_these.ensures)
    ∙ sym (has-append c.args.these.now c.args.those.now l))

pub returns : goal.returns
returns c =
    let l = complement c.args.lit in
    ap not
    (c.has_complement-in_those.ensures
    ∙ ap (λ (t : Bool). t || has c.args.those.now l) (sym c.if-in_these.false ∙ c.has_complement-in_these.ensures)
    ∙ sym (has-append c.args.these.now c.args.those.now l))
