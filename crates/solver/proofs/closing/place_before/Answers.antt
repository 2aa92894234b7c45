use Rattle.std.proofs.Common.{◌≡◌, Some, ap, sym, ◌∙◌, arith}
use Rattle.std.proofs.lemmas.Bool.{true≢false, eq-eqb}
use Rattle.solver.proofs.TouchLaws.{place_is, place_other}
use Rattle.solver.proofs.closing.place_before.Goals as goal

pub returns-then-place-end-clause-only : goal.returns-then-place-end-clause-only
returns-then-place-end-clause-only c = λ k m.
    let before = m.before in
    let same : c.in_ok-place.place ≡ k = place_is c.args.engine.now c.args.marks.now c.args.lit c.args.end k c.in_ok-place.place c.trail-lits.ensures.trail c.requires.end m c.in_ok-place.ensures.within (c.in_ok-place.ensures.variable ∙ c.var.ensures) in
    absurd (omega (arith, before, same, c.if-place-end.true))

pub returns-then-eq-clause-only : goal.returns-then-eq-clause-only
returns-then-eq-clause-only c = λ k m.
    ap Some (place_is c.args.engine.now c.args.marks.now c.args.lit c.args.end k c.in_ok-place.place c.trail-lits.ensures.trail c.requires.end m c.in_ok-place.ensures.within (c.in_ok-place.ensures.variable ∙ c.var.ensures))

pub returns-clause-only : goal.returns-clause-only
returns-clause-only c = λ k m.
    let same : c.in_ok-place.place ≡ k = place_is c.args.engine.now c.args.marks.now c.args.lit c.args.end k c.in_ok-place.place c.trail-lits.ensures.trail c.requires.end m c.in_ok-place.ensures.within (c.in_ok-place.ensures.variable ∙ c.var.ensures) in
    absurd (place_other c.args.engine.now c.trail-lits.result.now c.args.marks.now c.args.lit c.args.end c.in_ok-place.place c.index-lits-place.result c.trail-lits.ensures.lits c.in_ok-place.ensures.within c.index-lits-place.is
    (λ e. true≢false (sym (eq-eqb c.index-lits-place.result c.not.result (e ∙ sym c.not.ensures)) ∙ sym c.if-eq.ensures)) k same m)
