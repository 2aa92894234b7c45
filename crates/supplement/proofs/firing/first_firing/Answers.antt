-- The rule at this place joins those before it.
use Rattle.std.proofs.Common.{◌<◌, length, ◌∙◌, arith}
use Rattle.supplement.proofs.FirstFiring.{first_firing-more}
use Rattle.supplement.proofs.firing.first_firing.Goals as goal

pub loop-place-preserved : goal.loop-place-preserved
loop-place-preserved c =
    let all = c.args.supplements.now in
    let within : c.loop-place.place < length all = omega arith in
    let more = first_firing-more c.loop-place.place c.args.day c.args.set.now all c.index-supplements-place.result c.loop-place.first within c.index-supplements-place.is in
    rw (c.first_of-first.ensures, c.firing_at.ensures) (more ∙ c.loop-place.invariant)
