use Rattle.solver.proofs.EndLaws.{AreCodes}
use Rattle.solver.proofs.solver.true_codes.Given as goal

abbrev pub invariant-loop-code : goal.invariant-loop-code
invariant-loop-code l = AreCodes l.engine.lits l.set l.codes l.code
