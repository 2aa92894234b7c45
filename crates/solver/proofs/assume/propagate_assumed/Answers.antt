use Rattle.solver.proofs.SearchLaws.{settled_propagated, held_grows, opened_grows}
use Rattle.solver.proofs.LearnLaws.{false_found}
use Rattle.solver.proofs.assume.propagate_assumed.Goals as goal

pub returns-clause-settled : goal.returns-clause-settled
returns-clause-settled c =
    settled_propagated c.args.engine.now c.propagate.new.self c.trail.ensures.trail c.propagate.ensures.extends c.propagate.ensures.clauses c.requires.settled

pub returns-clause-kept : goal.returns-clause-kept
returns-clause-kept c = held_grows c.args.engine.now c.propagate.new.self c.trail.ensures.trail c.propagate.ensures.extends

pub returns-clause-closing : goal.returns-clause-closing
returns-clause-closing c =
    false_found c.propagate.new.self c.args.assumptions.now c.in_ok-found.found c.in_ok-found.ensures.conflict c.in_ok-found.ensures.attached
    (opened_grows c.args.engine.now c.propagate.new.self c.trail.ensures.trail c.propagate.ensures.extends c.args.assumptions.now c.trail-2.ensures.trail c.requires.opened)
