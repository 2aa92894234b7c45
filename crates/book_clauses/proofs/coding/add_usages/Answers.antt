use Rattle.std.proofs.Common.{ℕ, ◌∙◌, length, ap, arith}
use Rattle.clausify.specs.Formulas.{formula_literal}
use Rattle.book_clauses.specs.Coding.{free_usage}
use Rattle.book_clauses.proofs.StepLaws.{free_made, items_more, room_for, usage_small, usages_more}
use Rattle.book_clauses.proofs.coding.add_usages.Goals as goal

pub literal-requires : goal.literal-requires
literal-requires c =
    let below = c.loop-variant-test.true in
    room_for _ c.args.encoder.now.next c.loop-variant.variant-index (length c.args.book.now.variants) _ c.loop-variant.invariant.next
    (omega (arith, below, ap length c.variants-variant-items.ensures.value)) c.requires.room
    (usage_small (length c.args.book.now.codes) (length c.args.book.now.positions) c.variants-variant-items.result.now c.loop-variant.variant-index c.variant-item.result
    c.variants-variant-items.ensures.fit (omega (arith, below)) c.variant-item.is)

pub loop-variant-preserved : goal.loop-variant-preserved
loop-variant-preserved c =
    let below = c.loop-variant-test.true in
    let made = c.in_ok-usage.ensures.made in
    let small = usage_small (length c.args.book.now.codes) (length c.args.book.now.positions) c.variants-variant-items.result.now c.loop-variant.variant-index c.variant-item.result
    c.variants-variant-items.ensures.fit (omega (arith, below)) c.variant-item.is in
    record {
      made = λ is h.
          items_more free_usage is c.variants-variant-items.result.now c.loop-variant.variant-index c.variant-item.result c.loop-variant.encoder c.literal.new.self
          (omega (arith, below)) c.variant-item.is (c.loop-variant.invariant.made is h)
          (free_made c.loop-variant.encoder c.literal.new.self c.variant-item.result made);
      truth = made.truth ∙ c.loop-variant.invariant.truth;
      next = omega (arith, made.next, small, c.loop-variant.invariant.next);
      usages =
          usages_more c.args.encoder.now.truth c.loop-variant.encoder.next c.literal.new.self.next c.loop-variant.usages.items c.push-in-loop-variant.new.self.items _
          c.variants-variant-items.result.now c.loop-variant.variant-index c.variant-item.result c.in_ok-usage.usage (omega (arith, below)) c.variant-item.is
          c.loop-variant.invariant.usages
          (c.in_ok-usage.ensures.literal ∙ ap (λ (t : ℕ). formula_literal t c.loop-variant.encoder.next c.variant-item.result.rule) c.loop-variant.invariant.truth)
          made.next c.in_ok-push-2.ensures.items;
    }
