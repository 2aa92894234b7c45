use Rattle.std.proofs.Common.{◌≡◌, ℕ, List, length, sym, ap, subst, ◌∙◌, arith}
use Rattle.std.proofs.lemmas.List.{take_all}
use Rattle.solver.specs.Marks.{AreFalseOrBlamed}
use Rattle.solver.proofs.MarkLaws.{reason_attached}
use Rattle.solver.proofs.TouchLaws.{down_opened, down_resolved, down_done}
use Rattle.solver.proofs.closing.resolve_all.Goals as goal

pub loop-place-init : goal.loop-place-init
loop-place-init c =
    let len : length c.trail-end.result.now ≡ length c.args.engine.now.lits = ap length c.trail-end.ensures.lits in
    record {
      chain = c.requires.chain;
      table = c.requires.table;
      others_false = subst (λ (xs : List ℕ). AreFalseOrBlamed xs c.args.resolution.now.marks.items c.args.assumptions.now) (sym (take_all (length c.trail-end.result.now) c.args.engine.now.lits (omega (arith, len)))) c.requires.others_false;
      within = omega (arith, len);
    }

pub lits-requires : goal.lits-requires
lits-requires c =
    reason_attached c.args.engine.now c.args.pool.now.clauses c.in-Some.place c.in-Some-reason_at.reason c.trail-end.ensures.trail (let b = c.in-Some.ensures.top.before in let w = c.loop-place.invariant.within in omega (arith, b, w)) (sym c.reason_at.ensures ∙ c.in-Some-reason_at.is) c.requires.attached

pub loop-place-preserved-in_default-reason_at : goal.loop-place-preserved-in_default-reason_at
loop-place-preserved-in_default-reason_at c =
    let inv = c.loop-place.invariant in
    let top = c.in-Some.ensures.top in
    let before = top.before in
    let within = inv.within in
    record {
      chain = inv.chain;
      table = inv.table;
      others_false = down_opened c.args.engine.now c.loop-place.resolution.marks.items c.args.assumptions.now c.loop-place.end inv.others_false c.in-Some.place top
          (c.requires.opened c.in-Some.place (omega (arith, before, within)) (sym c.reason_at.ensures ∙ c.in_default-reason_at.is));
      within = omega (arith, before, within);
    }

pub loop-place-preserved : goal.loop-place-preserved
loop-place-preserved c =
    let inv = c.loop-place.invariant in
    let top = c.in-Some.ensures.top in
    let before = top.before in
    let within = inv.within in
    record {
      chain = c.in_ok-resolve_at.ensures.chain;
      table = c.resolve_at.ensures.table;
      others_false = down_resolved c.args.engine.now c.loop-place.resolution.marks.items c.args.assumptions.now c.loop-place.end inv.others_false c.in-Some.place c.resolve_at.new.resolution.marks.items top c.in_ok-resolve_at.ensures.resolved;
      within = omega (arith, before, within);
    }

pub returns-clause-blamed : goal.returns-clause-blamed
returns-clause-blamed c = down_done c.args.engine.now c.loop-place.resolution.marks.items c.args.assumptions.now c.loop-place.end c.loop-place.invariant.others_false c.in_default.ensures.none
