use Rattle.propagate.proofs.KeepLaws.{grown_not}
use Rattle.propagate.proofs.visit.put_last.Goals as goal

pub returns-then-is_false-clause-grown : goal.returns-then-is_false-clause-grown
returns-then-is_false-clause-grown c = grown_not c.args.assignment.now
