use Rattle.std.proofs.Common.{ℕ, ◌<◌}
use Rattle.left_cars.specs.Seen.{IsSeen, SeenAt}
use Rattle.left_cars.proofs.seen.see.Given as goal

abbrev pub invariant-loop-place : goal.invariant-loop-place
invariant-loop-place l = record {
  seen : IsSeen l.book l.day l.chosen l.seen;
  upto : (p : ℕ) → p < l.place → SeenAt l.seen p;
}
