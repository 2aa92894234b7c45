use Rattle.std.proofs.Common.{◌≡◌, ℕ, ◌-◌, ap, ◌∙◌, arith}
use Rattle.propagate.specs.Trail.{Trail, end_of}
use Rattle.solver.specs.Marks.{start_of}
use Rattle.solver.proofs.MarkLaws.{reason_attached, uip_resolved}
use Rattle.solver.proofs.minimize.minimize.Goals as goal

pub lits-reason-requires : goal.lits-reason-requires
lits-reason-requires c =
    reason_attached c.args.engine.now c.args.pool.now.clauses c.in-Some.at.place c.in-Some.at.reason c.trail.ensures.trail c.in-Some.ensures.resolvable.within c.in-Some.ensures.resolvable.reason_is c.requires.attached

pub loop-preserved : goal.loop-preserved
loop-preserved c =
    let t : Trail = c.args.engine.now in
    let start : c.end_of-start.result ≡ start_of t = c.end_of-start.ensures ∙ ap (λ (n : ℕ). end_of t (n - 1)) c.level.ensures.level in
    let before = c.in-Some.ensures.before in
    record {
      chain = c.in_ok-resolve_at.ensures.chain;
      table = c.resolve_at.ensures.table;
      is_uip = uip_resolved t c.loop.resolution.marks.items c.resolve_at.new.resolution.marks.items c.in-Some.at.place c.args.uip c.trail.ensures.trail (omega (arith, start, before)) c.loop.invariant.is_uip c.in_ok-resolve_at.ensures.resolved;
    }
