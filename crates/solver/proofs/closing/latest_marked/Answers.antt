use Rattle.std.proofs.Common.{length, ap, ◌∙◌}
use Rattle.solver.proofs.MarkLaws.{false_below}
use Rattle.solver.proofs.closing.latest_marked.Goals as goal

pub last_marked-requires-clause-below : goal.last_marked-requires-clause-below
last_marked-requires-clause-below c = λ k low.
    false_below c.args.engine.now c.trail.result.now (length c.deref.result.now) k c.trail.ensures.trail c.trail.ensures.lits (ap length c.deref.ensures.value ∙ c.requires.table) low
