-- Each firing rule goes one step on the way, and takes one absent code away.
use Rattle.std.proofs.Common.{sym}
use Rattle.supplement.proofs.Steps.{steps, ends, adds_absent, fewer_after}
use Rattle.supplement.proofs.plain.complete_by_trying.Goals as goal

pub with-requires : goal.with-requires
with-requires c =
    (adds_absent c.args.supplements.now c.args.day c.args.set c.loop-firing.set c.loop-firing.added c.in-Some.firing c.requires.fit (sym c.in-Some.ensures) c.loop-firing.invariant).0

pub loop-firing-smaller : goal.loop-firing-smaller
loop-firing-smaller c =
    rw c.with.ensures (fewer_after c.args.supplements.now c.args.day c.args.set c.loop-firing.set c.loop-firing.added c.in-Some.firing c.requires.fit (sym c.in-Some.ensures) c.loop-firing.invariant)

pub loop-firing-preserved : goal.loop-firing-preserved
loop-firing-preserved c =
    rw (c.with.ensures, c.in_ok-push.ensures.ok) (steps c.args.supplements.now c.args.day c.args.set c.loop-firing.set c.loop-firing.added c.in-Some.firing c.requires.fit (sym c.in-Some.ensures) c.loop-firing.invariant)

pub returns : goal.returns
returns c = ends c.args.supplements.now c.args.day c.args.set c.loop-firing.set c.loop-firing.added (sym c.in_default.ensures) c.loop-firing.invariant
