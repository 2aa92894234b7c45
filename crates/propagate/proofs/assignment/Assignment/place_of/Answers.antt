use Rattle.std.proofs.Common.{◌≡◌, ◌<◌, ◌*◌, ◌/◌, length, slice_index, sym, subst, ◌∙◌, ap, arith}
use Rattle.propagate.specs.Assignment.{Assigned, value_over, known}
use Rattle.propagate.proofs.AssignmentLaws.{place_read, open_nowhere}
use Rattle.propagate.proofs.assignment.Assignment.place_of.Goals as goal

pub returns-in-Open-clause-none : goal.returns-in-Open-clause-none
returns-in-Open-clause-none c k within same =
    open_nowhere c.args.self.now.lits (2 * c.args.var) c.args.var k (sym c.truth.ensures.value ∙ ap known c.in-Open.is) (omega arith) within same

pub returns-in-Holds : goal.returns-in-Holds
returns-in-Holds c =
    let below = subst (λ (a : Assigned). c.args.var < a.vars) (sym c.self.view_is) c.requires in
    let value = subst (λ (a : Assigned). known c.truth.result ≡ value_over a.lits (2 * c.args.var)) (sym c.self.view_is) c.truth.ensures.value in
    let found = place_read _ _ _ c.args.var c.index.result.now c.truth.result c.self.invariant.1 below value c.in-Holds.is c.index.ensures in
    let place = subst (λ (a : Assigned). (c.index.result.now < length a.lits) × (slice_index a.lits c.index.result.now / 2 ≡ c.args.var)) c.self.view_is found in
    record { within = place.0; variable = place.1; assigned = c.truth.ensures.assigned; none = tt }
