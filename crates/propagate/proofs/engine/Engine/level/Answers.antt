use Rattle.std.proofs.Common.{subst}
use Rattle.propagate.specs.Trail.{Trail, IsTrail}
use Rattle.propagate.specs.Visiting.{scene}
use Rattle.propagate.proofs.EngineLaws.{is_trail}
use Rattle.propagate.proofs.engine.Engine.level.Goals as goal

pub returns-clause-trail : goal.returns-clause-trail
returns-clause-trail c = subst (λ (t : Trail). IsTrail t) c.self.view_is (is_trail (scene c.self.inside.assignment c.self.inside.watched) _ _ c.assigned_law.ensures.assigned c.self.invariant.0)
