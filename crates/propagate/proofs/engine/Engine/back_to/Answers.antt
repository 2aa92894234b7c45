use Rattle.std.proofs.Common.{◌<◌, length, ap, arith}
use Rattle.propagate.specs.Assignment.{Assigned}
use Rattle.propagate.specs.Visiting.{scene}
use Rattle.propagate.proofs.EngineLaws.{engine_cut}
use Rattle.propagate.proofs.engine.Engine.back_to.Goals as goal

pub invariant_of-self : goal.invariant_of-self
invariant_of-self c =
    let within : c.args.n < length c.self.inside.heads.items = omega (arith, c.if-n-len.true, c.len.ensures, c.self.inside.heads.ok.0) in (
      rw (c.cut.ensures, c.truncate.ensures.items)
          (engine_cut (scene c.self.inside.assignment c.self.inside.watched) c.self.inside.heads.items c.self.inside.head c.args.n c.index.result.now c.assigned_law.ensures.assigned c.self.invariant.0.visiting within c.index.ensures c.self.inside.refuted c.self.invariant.0),
      omega (arith, c.self.invariant.1, c.truncate.ensures.capacity, ap (λ (a : Assigned). a.vars) c.cut.ensures),
    )
