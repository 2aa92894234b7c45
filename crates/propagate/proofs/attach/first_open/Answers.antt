use Rattle.std.proofs.Common.{◌≡◌, ℕ, true, inl, inr, subst, sym, ◌∙◌, arith}
use Rattle.clause_pool.specs.Literal.{complement}
use Rattle.clause_pool.specs.Clause.{has}
use Rattle.propagate.proofs.TakeLaws.{item_in, one_more_item}
use Rattle.propagate.proofs.attach.first_open.Goals as goal

pub overflow_cast-code : goal.overflow_cast-code
overflow_cast-code c =
    let b = c.requires c.lit-item.result (item_in c.args.lits.now c.loop-lit.lit-index c.lit-item.result c.loop-lit-test.true c.lit-item.is) in
    omega (arith, b, c.code-code.ensures.code, c.assigned_law.ensures.small)

pub is_false-requires : goal.is_false-requires
is_false-requires c =
    let b = c.requires c.lit-item.result (item_in c.args.lits.now c.loop-lit.lit-index c.lit-item.result c.loop-lit-test.true c.lit-item.is) in
    omega (arith, b, c.code-code.ensures.code)

pub loop-lit-preserved : goal.loop-lit-preserved
loop-lit-preserved c = λ code is_in. elim (one_more_item c.args.lits.now c.loop-lit.lit-index c.lit-item.result code c.loop-lit-test.true c.lit-item.is is_in) [
  | inl before ↦ c.loop-lit.invariant code before
  | inr same ↦ subst (λ (n : ℕ). has c.args.assignment.now.lits (complement n) ≡ true) (c.code-code.ensures.code ∙ same) (sym c.is_false.ensures ∙ c.if-not-is_false.false)
]
