use Rattle.blame.specs.Guarding.{AreFurther}
use Rattle.blame.proofs.guarding.add_plain_entries.Given as goal

abbrev pub invariant-loop-place : goal.invariant-loop-place
invariant-loop-place l = AreFurther l.book l.entries l.place l.initial.encoder l.encoder
