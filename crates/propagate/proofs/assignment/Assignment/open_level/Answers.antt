use Rattle.std.proofs.Common.{◌≡◌, ◌<◌, ◌≤◌, [], ◌∷◌, length, sym, subst, refl, ◌∙◌, arith}
use Rattle.std.proofs.lemmas.Slice.{pushed}
use Rattle.propagate.specs.Assignment.{Assigned}
use Rattle.propagate.proofs.AssignmentLaws.{few_literals}
use Rattle.propagate.proofs.AssignmentSteps.{level_is_assigned, other_levels_tables}
use Rattle.propagate.proofs.assignment.Assignment.open_level.Goals as goal

pub overflow_cast-len : goal.overflow_cast-len
overflow_cast-len c =
    let few : length c.self.inside.lits.items ≤ length c.self.inside.places.items = few_literals _ c.self.invariant.0 in
    omega (arith, few)

pub unwrap-requires : goal.unwrap-requires
unwrap-requires c =
    let room = subst (λ (a : Assigned). length a.starts < a.vars) (sym c.self.view_is) c.requires in
    c.push.ensures.succeeds (omega (arith, room, c.self.inside.starts.ok.0))

pub invariant_of-self : goal.invariant_of-self
invariant_of-self c =
    let room = subst (λ (a : Assigned). length a.starts < a.vars) (sym c.self.view_is) c.requires in
    let starts = pushed {was = c.self.inside.starts.items} {now = c.push.new.self.items} (c.len.result ∷ []) refl c.unwrap.ensures
    c.push.ensures.items in
    let at : c.len.result ≡ length c.self.inside.lits.items = c.len.ensures ∙ c.self.inside.lits.ok.0 in (
      rw (starts, at) (level_is_assigned _ c.self.invariant.0 room),
      other_levels_tables _ _ _ _ c.self.invariant.1,
      omega arith,
      omega arith,
      omega arith,
      omega (arith, c.push.ensures.capacity),
    )
