use Rattle.std.proofs.Common.{◌≡◌, ℕ, suc, ◌-◌, subst, ◌∙◌, arith}
use Rattle.std.specs.List.{slice_set}
use Rattle.std.proofs.lemmas.List.{length-set}
use Rattle.propagate.specs.Assignment.{OpensBehind}
use Rattle.propagate.specs.declared.assignment.Truth.TheVariants.{Open}
use Rattle.propagate.proofs.AssignmentSteps.{open_step}
use Rattle.propagate.proofs.TakeLaws.{item_in}
use Rattle.propagate.proofs.assignment.open_behind.Goals as goal

pub bounds-values-code : goal.bounds-values-code
bounds-values-code c =
    let more = c.loop-at-test.true in let within = c.loop-at.invariant.within in let counted = c.loop-at.invariant.counted in
    let is_in = item_in c.args.lits.now (c.loop-at.at - 1) c.index-lits-at.result (omega (arith, within, more)) c.index-lits-at.is in
    let b = c.requires.literals c.index-lits-at.result is_in in
    omega (arith, b, c.code.ensures.code, counted)

pub loop-at-preserved : goal.loop-at-preserved
loop-at-preserved c =
    let more = c.loop-at-test.true in let within = c.loop-at.invariant.within in
    let e : c.loop-at.at ≡ suc (c.loop-at.at - 1) = omega (arith, more) in
    record {
      behind = omega (arith, more);
      within = omega (arith, within);
      counted = length-set (slice_set c.loop-at.values c.code.result Open) c.code-in-loop-at.result Open ∙ length-set c.loop-at.values c.code.result Open ∙ c.loop-at.invariant.counted;
      opened = open_step c.args.values.now c.loop-at.values c.args.lits.now c.args.end c.loop-at.at (c.loop-at.at - 1) c.index-lits-at.result c.code.result c.code-in-loop-at.result c.loop-at.invariant.opened e within
          (omega (arith, more)) c.code.ensures.code (c.code-in-loop-at.ensures.code ∙ c.not.ensures) c.index-lits-at.is;
    }

pub returns-clause-opened : goal.returns-clause-opened
returns-clause-opened c =
    let last = c.loop-at-test.false in let behind = c.loop-at.invariant.behind in
    let e : c.loop-at.at ≡ c.args.end = omega (arith, last, behind) in
    subst (λ (n : ℕ). OpensBehind c.args.values.now c.loop-at.values c.args.lits.now c.args.end n) e c.loop-at.invariant.opened
