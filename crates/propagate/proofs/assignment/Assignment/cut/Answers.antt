use Rattle.propagate.proofs.AssignmentSteps.{end_within, cut_within}
use Rattle.propagate.proofs.assignment.Assignment.cut.Goals as goal

pub keep_literals-requires-clause-counted : goal.keep_literals-requires-clause-counted
keep_literals-requires-clause-counted c = rw c.keep_levels.ensures c.assigned_law.ensures.assigned.reasons_counted

pub keep_literals-requires-clause-end : goal.keep_literals-requires-clause-end
keep_literals-requires-clause-end c =
    rw (c.keep_levels.ensures, c.end_of-end.ensures) (end_within c.args.self.now c.args.level c.assigned_law.ensures.assigned c.requires)

pub keep_literals-requires-clause-within : goal.keep_literals-requires-clause-within
keep_literals-requires-clause-within c =
    rw (c.keep_levels.ensures, c.end_of-end.ensures) (λ i b. cut_within c.args.self.now c.args.level i c.assigned_law.ensures.assigned c.requires b)
