use Rattle.std.proofs.Common.{ℕ, ◌/◌, sym, ◌∙◌, ap}
use Rattle.clause_pool.specs.Literal.{complement}
use Rattle.clause_pool.proofs.LiteralLaws.{complement-half}
use Rattle.propagate.proofs.AssignmentLaws.{has_place}
use Rattle.propagate.proofs.TakeLaws.{not_before, before_place}
use Rattle.propagate.proofs.assignment.Assignment.was_false.Goals as goal

pub returns-then-not-is_false : goal.returns-then-not-is_false
returns-then-not-is_false c = sym (not_before c.args.end c.args.self.now.lits (complement c.args.code) (sym c.is_false.ensures ∙ c.if-not-is_false.true))

pub returns-in-Some : goal.returns-in-Some
returns-in-Some c =
    before_place c.args.self.now (complement c.args.code) c.in-Some.place c.args.end c.place_of.ensures.assigned (sym c.is_false.ensures ∙ c.if-not-is_false.false) c.in-Some.ensures.within
    (c.in-Some.ensures.variable ∙ sym (complement-half c.args.code))

pub returns-in-None : goal.returns-in-None
returns-in-None c =
    let found = has_place c.args.self.now.lits (complement c.args.code) (sym c.is_false.ensures ∙ c.if-not-is_false.false) in
    absurd (c.in-None.ensures.none found.0 found.1 (ap (λ (n : ℕ). n / 2) found.2 ∙ complement-half c.args.code))
