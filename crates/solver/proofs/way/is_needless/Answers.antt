use Rattle.solver.proofs.MarkLaws.{reason_attached}
use Rattle.solver.proofs.way.is_needless.Goals as goal

pub lits-requires : goal.lits-requires
lits-requires c =
    reason_attached c.args.engine.now c.args.pool.now.clauses c.args.at.place c.args.at.reason c.trail.ensures.trail c.requires.resolvable.within c.requires.resolvable.reason_is c.requires.attached
