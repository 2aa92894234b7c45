use Rattle.std.proofs.Common.{◌∷◌, [], refl, ap, arith}
use Rattle.std.proofs.lemmas.Slice.{pushed}
use Rattle.propagate.specs.Trail.{Trail}
use Rattle.propagate.specs.Assignment.{Assigned}
use Rattle.propagate.specs.Visiting.{scene}
use Rattle.propagate.proofs.EngineLaws.{engine_level, engine_assumed}
use Rattle.propagate.proofs.engine.Engine.assume.Goals as goal

pub overflow_cast-code : goal.overflow_cast-code
overflow_cast-code c = omega (arith, c.code-code.ensures.code, c.requires.below, c.assigned_law.ensures.small, ap (λ (t : Trail). t.vars) c.self.view_is)

pub invariant_of-self : goal.invariant_of-self
invariant_of-self c =
    let heads = pushed {was = c.self.inside.heads.items} {now = c.push.new.self.items} (c.self.inside.head ∷ []) refl c.unwrap.ensures c.push.ensures.items in (
      rw (c.open_level.ensures, heads) (engine_level (scene c.self.inside.assignment c.self.inside.watched) c.self.inside.heads.items c.self.inside.head c.self.inside.refuted c.self.invariant.0),
      omega (arith, c.self.invariant.1, c.push.ensures.capacity, ap (λ (a : Assigned). a.vars) c.open_level.ensures),
    )

pub invariant_of-self-2 : goal.invariant_of-self-2
invariant_of-self-2 c =
    let heads = pushed {was = c.self.inside.heads.items} {now = c.push.new.self.items} (c.self.inside.head ∷ []) refl c.unwrap.ensures c.push.ensures.items in (
      rw (c.put.ensures.literal, c.open_level.ensures, heads)
          (engine_assumed (scene c.self.inside.assignment c.self.inside.watched) c.self.inside.heads.items c.self.inside.head c.args.lit c.self.inside.refuted c.assigned_law.ensures.assigned.reasons_counted c.self.invariant.0),
      omega (arith, c.self.invariant.1, c.push.ensures.capacity, ap (λ (a : Assigned). a.vars) c.open_level.ensures, ap (λ (a : Assigned). a.vars) c.put.ensures.literal),
    )
