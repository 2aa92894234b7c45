use Rattle.std.proofs.Common.{◌<◌, ◌∙◌, arith}
use Rattle.propagate.specs.Trail.{Trail, end_of}
use Rattle.solver.proofs.SearchLaws.{false_behind}
use Rattle.solver.proofs.backjump.was_false.Goals as goal

pub returns : goal.returns
returns c =
    let t : Trail = c.args.engine.now in
    let within = c.in-Some.ensures.within in
    let before : c.in-Some.place < end_of t c.args.level = omega (arith, c.if-place-end_of.false, c.end_of.ensures) in
    false_behind t c.args.lit c.in-Some.place (end_of t c.args.level) c.requires.trail c.requires.is_false within
    (c.in-Some.ensures.variable ∙ c.var.ensures) before
