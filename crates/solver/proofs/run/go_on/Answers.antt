use Rattle.solver.proofs.LearnLaws.{lesson_is_new}
use Rattle.solver.proofs.run.go_on.Goals as goal

pub returns-clause-fresh : goal.returns-clause-fresh
returns-clause-fresh c = λ a d high assumed. lesson_is_new c.args.kernel.now c.analyze.new.kernel c.args.engine.now c.in_ok-place.place a d high assumed c.in_ok-place.ensures.learnt
