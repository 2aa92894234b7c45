use Rattle.std.proofs.Common.{◌+◌, Option, drop, ap, ◌∙◌}
use Rattle.pb_base.specs.Rule.{Rule}
use Rattle.supplement_findings.specs.Clauses.{and_rest}
use Rattle.supplement_findings.specs.Touching.{afters_at}
use Rattle.supplement_findings.proofs.CodingLaws.{unbroken_next}
use Rattle.supplement_findings.proofs.together.unbroken.Goals as goal

pub loop-place-preserved : goal.loop-place-preserved
loop-place-preserved c =
    let b = c.args.book.now in
    let day = c.args.day in
    let ps = c.args.touched.now in
    let i = c.loop-place.place-index in
    ap (λ (o : Option Rule). and_rest o (afters_at b day c.args.added (drop (i + 1) ps))) c.in_ok-all.ensures
    ∙ unbroken_next b day c.args.added ps i _ c.loop-place.all c.loop-place-test.true ∙ c.loop-place.invariant
