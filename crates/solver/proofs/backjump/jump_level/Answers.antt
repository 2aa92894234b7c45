use Rattle.std.proofs.Common.{◌≡◌, ℕ, ◌+◌, ◌<◌, List, [], ◌∷◌, ◌++◌, length, ◌/◌, take, get_or, arith, sym, ap, subst, ◌∙◌}
use Rattle.std.proofs.lemmas.Bool.{true≢false, eq-eqb}
use Rattle.std.proofs.lemmas.List.{take_more}
use Rattle.propagate.specs.Trail.{Trail}
use Rattle.propagate.specs.Engine.{IsLevelOf}
use Rattle.propagate.proofs.TakeLaws.{item_in}
use Rattle.propagate.proofs.QuietLaws.{has_take}
use Rattle.clause_pool.specs.Literal.{complement}
use Rattle.solver.specs.Marks.{start_of}
use Rattle.solver.specs.Search.{IsJump}
use Rattle.solver.proofs.SearchLaws.{jump_none, jump_rises, jump_stays, false_has_level}
use Rattle.solver.proofs.backjump.jump_level.Goals as goal
use Rattle.solver.proofs.backjump.jump_level.Goals.{then-jump-level, else-jump-level}

one_more : (t : Trail) (c : List ℕ) (i y u n : ℕ) → i < length c → y ≡ get_or c i y → IsJump t (take i c ++ y ∷ []) u n → IsJump t (take (i + 1) c) u n
one_more t c i y u n within is j = subst (λ (cs : List ℕ). IsJump t cs u n) (sym (take_more c i y within ∙ ap (λ (z : ℕ). take i c ++ z ∷ []) (sym is))) j

pub loop-lit-init : goal.loop-lit-init
loop-lit-init c = jump_none c.args.engine.now c.args.forced c.requires.level

pub was_false-requires-clause-below : goal.was_false-requires-clause-below
was_false-requires-clause-below c = c.requires.below c.lit-item.result (item_in c.args.lits.now c.loop-lit.lit-index c.lit-item.result (omega arith) c.lit-item.is)

pub was_false-requires-clause-is_false : goal.was_false-requires-clause-is_false
was_false-requires-clause-is_false c =
    let t : Trail = c.args.engine.now in
    let is_in = item_in c.args.lits.now c.loop-lit.lit-index c.lit-item.result (omega arith) c.lit-item.is in
    let is_false = c.requires.others_false c.lit-item.result is_in (λ e. true≢false (sym (eq-eqb c.lit-item.result c.args.forced e) ∙ sym c.if-eq.ensures)) in
    has_take (start_of t) t.lits (complement c.lit-item.result) is_false

pub level_of-requires : goal.level_of-requires
level_of-requires c =
    let low = c.requires.below c.lit-item.result (item_in c.args.lits.now c.loop-lit.lit-index c.lit-item.result (omega arith) c.lit-item.is) in
    omega (arith, low, c.var.ensures)

pub unreachable-requires : goal.unreachable-requires
unreachable-requires c =
    let t : Trail = c.args.engine.now in
    let is_in = item_in c.args.lits.now c.loop-lit.lit-index c.lit-item.result (omega arith) c.lit-item.is in
    let is_false = c.requires.others_false c.lit-item.result is_in (λ e. true≢false (sym (eq-eqb c.lit-item.result c.args.forced e) ∙ sym c.if-eq.ensures)) in
    false_has_level t c.lit-item.result is_false
    (λ k within is. c.in_default.ensures.open_variable k within (is ∙ sym c.var.ensures))

pub loop-lit-preserved : goal.loop-lit-preserved
loop-lit-preserved c =
    let t : Trail = c.args.engine.now in
    let within : c.loop-lit.lit-index < length c.args.lits.now = omega arith in
    let is_in = item_in c.args.lits.now c.loop-lit.lit-index c.lit-item.result within c.lit-item.is in
    let other : (c.lit-item.result ≡ c.args.forced → ⊥) = λ e. true≢false (sym (eq-eqb c.lit-item.result c.args.forced e) ∙ sym c.if-eq.ensures) in
    let is_false = c.requires.others_false c.lit-item.result is_in other in
    let at : IsLevelOf t (c.lit-item.result / 2) c.in-Some.level = subst (λ (v : ℕ). IsLevelOf t v c.in-Some.level) c.var.ensures c.in-Some.ensures.level in
    elim c.if-jump-level.branch [
      | then-jump-level w ↦ one_more t c.args.lits.now c.loop-lit.lit-index c.lit-item.result c.args.forced c.if-jump-level.jump within c.lit-item.is
          (subst (λ (n : ℕ). IsJump t (take c.loop-lit.lit-index c.args.lits.now ++ c.lit-item.result ∷ []) c.args.forced n) (sym w.jump-is)
          (jump_rises t (take c.loop-lit.lit-index c.args.lits.now) c.args.forced c.loop-lit.jump c.lit-item.result c.in-Some.level c.requires.trail c.loop-lit.invariant other is_false at w.if-jump-level.true))
      | else-jump-level w ↦ one_more t c.args.lits.now c.loop-lit.lit-index c.lit-item.result c.args.forced c.if-jump-level.jump within c.lit-item.is
          (subst (λ (n : ℕ). IsJump t (take c.loop-lit.lit-index c.args.lits.now ++ c.lit-item.result ∷ []) c.args.forced n) (sym w.jump-is)
          (jump_stays t (take c.loop-lit.lit-index c.args.lits.now) c.args.forced c.loop-lit.jump c.lit-item.result c.in-Some.level c.requires.trail c.loop-lit.invariant other is_false at w.if-jump-level.false))
    ]
