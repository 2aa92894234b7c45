use Rattle.std.proofs.Common.{ap, length, ◌∙◌, arith}
use Rattle.solver.proofs.SearchLaws.{settled_propagated, assumed_grows}
use Rattle.solver.proofs.decide.descend.Goals as goal

pub returns-then-is_some-clause-settled : goal.returns-then-is_some-clause-settled
returns-then-is_some-clause-settled c =
    settled_propagated c.loop-found.engine c.propagate.new.self c.trail.ensures.trail c.propagate.ensures.extends c.propagate.ensures.clauses c.loop-found.invariant.2

pub returns-then-is_some-clause-assumed : goal.returns-then-is_some-clause-assumed
returns-then-is_some-clause-assumed c = λ a d deep assumed.
    assumed_grows c.loop-found.engine c.propagate.new.self c.trail.ensures.trail c.propagate.ensures.extends a d c.trail-in-loop-found.ensures.trail (c.loop-found.invariant.3 a d deep assumed)

pub decide-requires-clause-settled : goal.decide-requires-clause-settled
decide-requires-clause-settled c =
    settled_propagated c.loop-found.engine c.propagate.new.self c.trail.ensures.trail c.propagate.ensures.extends c.propagate.ensures.clauses c.loop-found.invariant.2

pub returns-then-not-decide-clause-assumed : goal.returns-then-not-decide-clause-assumed
returns-then-not-decide-clause-assumed c = λ a d deep assumed.
    let same = ap length c.propagate.ensures.extends.same_starts in
    let up = c.loop-found.invariant.4 in
    c.decide.ensures.assumed a d (omega (arith, deep, up, same))
    (assumed_grows c.loop-found.engine c.propagate.new.self c.trail.ensures.trail c.propagate.ensures.extends a d c.trail-in-loop-found.ensures.trail (c.loop-found.invariant.3 a d deep assumed))

pub loop-found-preserved : goal.loop-found-preserved
loop-found-preserved c =
    let same = ap length c.propagate.ensures.extends.same_starts in
    let up = c.loop-found.invariant.4 in
    let higher = c.decide.ensures.higher in (
      c.decide.ensures.clauses ∙ c.propagate.ensures.clauses ∙ c.loop-found.invariant.0,
      c.decide.ensures.vars ∙ c.propagate.ensures.extends.same_vars ∙ c.loop-found.invariant.1,
      c.decide.ensures.settled,
      λ a d deep assumed.
          c.decide.ensures.assumed a d (omega (arith, deep, up, same))
          (assumed_grows c.loop-found.engine c.propagate.new.self c.trail.ensures.trail c.propagate.ensures.extends a d c.trail-in-loop-found.ensures.trail (c.loop-found.invariant.3 a d deep assumed)),
      omega (arith, up, same, higher),
    )
