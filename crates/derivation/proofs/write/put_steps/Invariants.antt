use Rattle.derivation.proofs.TextLaws.{StepsPut}
use Rattle.derivation.proofs.write.put_steps.Given as goal

abbrev pub invariant-loop-at : goal.invariant-loop-at
invariant-loop-at l = StepsPut l.kernel l.initial.text l.text l.at
