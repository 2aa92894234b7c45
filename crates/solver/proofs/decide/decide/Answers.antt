use Rattle.solver.proofs.SearchLaws.{room_for_level, settled_assumed, assumed_assumed, left_assumed}
use Rattle.solver.proofs.decide.decide.Goals as goal

pub assume-requires-clause-room : goal.assume-requires-clause-room
assume-requires-clause-room c =
    (room_for_level c.args.engine.now c.in-Some.lit c.trail.ensures.trail c.requires.settled c.in-Some.ensures.below c.in-Some.ensures.not_true c.in-Some.ensures.not_false).1

pub returns-clause-settled : goal.returns-clause-settled
returns-clause-settled c =
    settled_assumed c.args.engine.now c.assume.new.self c.in-Some.lit c.trail.ensures.trail c.assume.ensures c.in-Some.ensures.not_true c.requires.settled c.requires.quiet

pub returns-clause-assumed : goal.returns-clause-assumed
returns-clause-assumed c = λ a d deep assumed.
    assumed_assumed c.args.engine.now c.assume.new.self c.in-Some.lit c.trail.ensures.trail c.assume.ensures c.in-Some.ensures.not_true a d deep assumed

pub returns-clause-fewer : goal.returns-clause-fewer
returns-clause-fewer c = λ yes.
    left_assumed c.args.engine.now c.assume.new.self c.in-Some.lit c.trail.ensures.trail c.assume.ensures c.in-Some.ensures.not_true
    (room_for_level c.args.engine.now c.in-Some.lit c.trail.ensures.trail c.requires.settled c.in-Some.ensures.below c.in-Some.ensures.not_true c.in-Some.ensures.not_false).0
