use Rattle.std.proofs.Common.{◌∙◌}
use Rattle.supplement_findings.proofs.CodingLaws.{literal_after}
use Rattle.supplement_findings.proofs.together.literal_with.Goals as goal

pub loop-place-preserved : goal.loop-place-preserved
loop-place-preserved c =
    literal_after c.args.codes.now c.args.lits.now c.loop-place.place c.args.code _ c.loop-place-test.true c.requires c.if-other-code.false ∙ c.loop-place.invariant
