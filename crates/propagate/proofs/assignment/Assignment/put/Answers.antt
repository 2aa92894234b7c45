use Rattle.std.proofs.Common.{◌≡◌, ◌+◌, ◌<◌, false, length, sym, subst, ◌∙◌, arith}
use Rattle.std.proofs.lemmas.List.{length-set}
use Rattle.clause_pool.specs.Literal.{complement}
use Rattle.clause_pool.specs.Clause.{has}
use Rattle.propagate.specs.Assignment.{Assigned}
use Rattle.propagate.proofs.AssignmentSteps.{room_for_one, put_assigned_by, put_tables_by}
use Rattle.propagate.proofs.assignment.Assignment.put.Goals as goal

pub overflow_cast-len : goal.overflow_cast-len
overflow_cast-len c =
    let below = subst (λ (a : Assigned). c.args.lit < a.vars + a.vars) (sym c.self.view_is) c.requires.below in
    let not_true = subst (λ (a : Assigned). has a.lits c.args.lit ≡ false) (sym c.self.view_is) c.requires.not_true in
    let not_false = subst (λ (a : Assigned). has a.lits (complement c.args.lit) ≡ false) (sym c.self.view_is) c.requires.not_false in
    let room : length c.self.inside.lits.items < length c.self.inside.places.items = room_for_one _ c.args.lit c.self.invariant.0 below not_true not_false in
    omega (arith, room)

pub push_reserved-requires : goal.push_reserved-requires
push_reserved-requires c =
    let below = subst (λ (a : Assigned). c.args.lit < a.vars + a.vars) (sym c.self.view_is) c.requires.below in
    let not_true = subst (λ (a : Assigned). has a.lits c.args.lit ≡ false) (sym c.self.view_is) c.requires.not_true in
    let not_false = subst (λ (a : Assigned). has a.lits (complement c.args.lit) ≡ false) (sym c.self.view_is) c.requires.not_false in
    let room : length c.self.inside.lits.items < length c.self.inside.places.items = room_for_one _ c.args.lit c.self.invariant.0 below not_true not_false in
    omega (arith, room, c.self.inside.lits.ok.0)

pub push_reserved-requires-2 : goal.push_reserved-requires-2
push_reserved-requires-2 c =
    let below = subst (λ (a : Assigned). c.args.lit < a.vars + a.vars) (sym c.self.view_is) c.requires.below in
    let not_true = subst (λ (a : Assigned). has a.lits c.args.lit ≡ false) (sym c.self.view_is) c.requires.not_true in
    let not_false = subst (λ (a : Assigned). has a.lits (complement c.args.lit) ≡ false) (sym c.self.view_is) c.requires.not_false in
    let room : length c.self.inside.lits.items < length c.self.inside.places.items = room_for_one _ c.args.lit c.self.invariant.0 below not_true not_false in
    let counted = c.self.invariant.0.reasons_counted in
    omega (arith, room, counted, c.self.inside.reasons.ok.0)

pub invariant_of-self : goal.invariant_of-self
invariant_of-self c =
    let inside = c.self.inside in
    let below = subst (λ (a : Assigned). c.args.lit < a.vars + a.vars) (sym c.self.view_is) c.requires.below in
    let not_true = subst (λ (a : Assigned). has a.lits c.args.lit ≡ false) (sym c.self.view_is) c.requires.not_true in
    let not_false = subst (λ (a : Assigned). has a.lits (complement c.args.lit) ≡ false) (sym c.self.view_is) c.requires.not_false in
    let vars = length-set c.self.inside.places.items c.var.result c.len.result in
    let lits = c.push_reserved.ensures.items in
    let reasons = c.push_reserved-2.ensures.items in (
      put_assigned_by _ _ _ _ c.args.lit c.args.reason vars lits reasons c.self.invariant.0 below not_true not_false,
      put_tables_by c.self.inside.values.items c.self.inside.places.items _ c.code.result c.code-2.result c.var.result c.len.result _ _ _ c.args.lit c.args.reason
          c.code.ensures.code (c.code-2.ensures.code ∙ c.not.ensures) c.var.ensures (c.len.ensures ∙ c.self.inside.lits.ok.0) vars lits reasons c.self.invariant.1 below not_true not_false,
      omega (arith, vars),
      omega (arith, vars, c.push_reserved.ensures.capacity),
      omega (arith, vars, c.push_reserved-2.ensures.capacity),
      omega (arith, vars),
    )

pub returns-clause-assigned : goal.returns-clause-assigned
returns-clause-assigned c =
    let below = subst (λ (a : Assigned). c.args.lit < a.vars + a.vars) (sym c.self.view_is) c.requires.below in
    let not_true = subst (λ (a : Assigned). has a.lits c.args.lit ≡ false) (sym c.self.view_is) c.requires.not_true in
    let not_false = subst (λ (a : Assigned). has a.lits (complement c.args.lit) ≡ false) (sym c.self.view_is) c.requires.not_false in
    let vars = length-set c.self.inside.places.items c.var.result c.len.result in
    let lits = c.push_reserved.ensures.items in
    let reasons = c.push_reserved-2.ensures.items in
    put_assigned_by _ _ _ _ c.args.lit c.args.reason vars lits reasons c.self.invariant.0 below not_true not_false
