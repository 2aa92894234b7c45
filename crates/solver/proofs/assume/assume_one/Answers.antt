use Rattle.std.proofs.Common.{Some, sym, ap, ◌∙◌}
use Rattle.solver.proofs.LearnLaws.{value_false, refuted_reasoned, refuted_closing}
use Rattle.solver.proofs.assume.assume_one.Goals as goal

pub unreachable-requires : goal.unreachable-requires
unreachable-requires c =
    let t = c.args.engine.now in
    let is_false = value_false t c.args.lit c.value.result c.trail.ensures.trail c.value.ensures (c.in-Some-false.is ∙ ap (λ b. Some b) c.in-Some-false.field-0-test) in
    refuted_reasoned t c.args.assumptions.now c.args.lit c.reason.result c.trail.ensures.trail c.requires.one is_false c.requires.opened
    (λ k within is. c.reason.ensures.reason k within (is ∙ sym c.var.ensures)) c.requires.consistent c.in_default.is

pub returns-in-Some-clause-closing : goal.returns-in-Some-clause-closing
returns-in-Some-clause-closing c =
    let t = c.args.engine.now in
    let is_false = value_false t c.args.lit c.value.result c.trail.ensures.trail c.value.ensures (c.in-Some-false.is ∙ ap (λ b. Some b) c.in-Some-false.field-0-test) in
    refuted_closing t c.args.assumptions.now c.args.lit c.reason.result c.trail.ensures.trail c.requires.one is_false c.requires.opened
    (λ k within is. c.reason.ensures.reason k within (is ∙ sym c.var.ensures)) c.in-Some.reason c.in-Some.is
