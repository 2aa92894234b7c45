use Rattle.blame.proofs.GuardLaws.{Guarding}
use Rattle.blame.proofs.guarding.guarded.Given as goal

abbrev pub invariant-loop-place : goal.invariant-loop-place
invariant-loop-place l = Guarding l.book l.entries l.place l.encoder
