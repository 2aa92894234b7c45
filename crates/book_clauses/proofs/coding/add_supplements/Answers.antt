use Rattle.std.proofs.Common.{ℕ, ◌∙◌, [], Option, length, ap, subst, arith}
use Rattle.clausify.specs.Items.{supplement_item}
use Rattle.guarded_rules.specs.Guarded.{EncodesGuarded, guarded}
use Rattle.book_clauses.specs.Coding.{guarded_supplement}
use Rattle.book_clauses.proofs.StepLaws.{items_more, room_for, supplement_small}
use Rattle.book_clauses.proofs.coding.add_supplements.Goals as goal

pub add_guarded_supplement-requires : goal.add_guarded_supplement-requires
add_guarded_supplement-requires c =
    let below = c.loop-supplement-test.true in
    room_for _ c.args.encoder.now.next c.loop-supplement.supplement-index (length c.args.book.now.supplements) _ c.loop-supplement.invariant.next
    (omega (arith, below, ap length c.supplements-supplement-items.ensures.value)) c.requires.room
    (supplement_small (length c.args.book.now.codes) c.supplements-supplement-items.result.now c.loop-supplement.supplement-index c.supplement-item.result
    c.supplements-supplement-items.ensures.fit (omega (arith, below)) c.supplement-item.is)

pub loop-supplement-preserved : goal.loop-supplement-preserved
loop-supplement-preserved c =
    let below = c.loop-supplement-test.true in
    let made : EncodesGuarded c.loop-supplement.encoder c.add_guarded_supplement.new.encoder (guarded_supplement c.args.book.now c.args.periods.now c.supplement-item.result) =
    subst (λ (g : Option ℕ). EncodesGuarded c.loop-supplement.encoder c.add_guarded_supplement.new.encoder (guarded g (supplement_item c.supplement-item.result)))
    c.guard_of-guard.ensures c.in_ok-add_guarded_supplement.ensures in
    let small = supplement_small (length c.args.book.now.codes) c.supplements-supplement-items.result.now c.loop-supplement.supplement-index c.supplement-item.result
    c.supplements-supplement-items.ensures.fit (omega (arith, below)) c.supplement-item.is in
    record {
      made =
          items_more (guarded_supplement c.args.book.now c.args.periods.now) []
          c.supplements-supplement-items.result.now c.loop-supplement.supplement-index c.supplement-item.result c.loop-supplement.encoder c.add_guarded_supplement.new.encoder
          (omega (arith, below)) c.supplement-item.is c.loop-supplement.invariant.made made;
      truth = made.truth ∙ c.loop-supplement.invariant.truth;
      next = omega (arith, made.next, small, c.loop-supplement.invariant.next);
    }
