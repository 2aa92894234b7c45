-- What fires first of the rules so far and of the rest is what fires first of all.
use Rattle.std.proofs.Common.{◌≡◌, drop}
use Rattle.supplement.specs.Completion.{first_firing_from, first_of}
use Rattle.supplement.proofs.firing.first_firing.Given as goal

abbrev pub invariant-loop-place : goal.invariant-loop-place
invariant-loop-place l =
    first_of l.first (first_firing_from l.place l.day l.set (drop l.place l.supplements)) ≡ first_firing_from 0 l.day l.set l.supplements
