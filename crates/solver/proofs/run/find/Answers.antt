use Rattle.std.proofs.Common.{Ok, ap, ◌∙◌, arith}
use Rattle.solver.proofs.LearnLaws.{held_here}
use Rattle.solver.proofs.run.find.Goals as goal

pub returns-in_default-2-clause-found : goal.returns-in_default-2-clause-found
returns-in_default-2-clause-found c =
    let a = c.args.assumptions.now in
    let d = c.hold.new.depth in
    let held = c.in_ok-at.was ∙ ap Ok c.in_default.is in
    let deep = c.hold.ensures.deep held in
    let higher = c.descend.ensures.higher in (
      c.descend.ensures.full (c.in_ok-at-2.was ∙ ap Ok c.in_default-2.is),
      held_here c.descend.new.engine a d (omega (arith, deep, higher)) (c.in_ok-at-2.ensures.assumed a d deep (c.hold.ensures.assumed held)),
    )
