use Rattle.solver.proofs.SearchLaws.{room_for_level, settled_assumed}
use Rattle.solver.proofs.assume.assume_open.Goals as goal

pub assume-requires-clause-room : goal.assume-requires-clause-room
assume-requires-clause-room c =
    (room_for_level c.args.engine.now c.args.lit c.trail.ensures.trail c.requires.settled c.requires.below c.requires.not_true c.requires.not_false).1

pub propagate_assumed-requires-clause-settled : goal.propagate_assumed-requires-clause-settled
propagate_assumed-requires-clause-settled c =
    settled_assumed c.args.engine.now c.assume.new.self c.args.lit c.trail.ensures.trail c.assume.ensures c.requires.not_true c.requires.settled c.requires.quiet
