use Rattle.std.proofs.Common.{ℕ, ◌∙◌, Option, length, ap, subst, arith}
use Rattle.clausify.specs.Items.{demand_item}
use Rattle.guarded_rules.specs.Guarded.{EncodesGuarded, guarded}
use Rattle.book_clauses.specs.Coding.{guarded_construct, guarded_supplements}
use Rattle.book_clauses.proofs.StepLaws.{demand_small, items_more, room_for}
use Rattle.book_clauses.proofs.coding.add_constructs.Goals as goal

pub add_guarded_demand-requires-clause-room : goal.add_guarded_demand-requires-clause-room
add_guarded_demand-requires-clause-room c =
    let below = c.loop-construct-test.true in
    room_for _ c.args.encoder.now.next c.loop-construct.construct-index (length c.args.book.now.constructs) _ c.loop-construct.invariant.next
    (omega (arith, below, ap length c.constructs-construct-items.ensures.value)) c.requires.room
    (demand_small (length c.args.book.now.codes) c.constructs-construct-items.result.now c.loop-construct.construct-index c.construct-item.result
    c.constructs-construct-items.ensures.fit (omega (arith, below)) c.construct-item.is)

pub loop-construct-preserved : goal.loop-construct-preserved
loop-construct-preserved c =
    let below = c.loop-construct-test.true in
    let made : EncodesGuarded c.loop-construct.encoder c.add_guarded_demand.new.encoder (guarded_construct c.args.book.now c.args.periods.now c.construct-item.result) =
    subst (λ (g : Option ℕ). EncodesGuarded c.loop-construct.encoder c.add_guarded_demand.new.encoder (guarded g (demand_item c.construct-item.result.demand)))
    c.guard_of-guard.ensures c.in_ok-add_guarded_demand.ensures in
    let small = demand_small (length c.args.book.now.codes) c.constructs-construct-items.result.now c.loop-construct.construct-index c.construct-item.result
    c.constructs-construct-items.ensures.fit (omega (arith, below)) c.construct-item.is in
    record {
      made =
          items_more (guarded_construct c.args.book.now c.args.periods.now) (guarded_supplements c.args.book.now c.args.periods.now)
          c.constructs-construct-items.result.now c.loop-construct.construct-index c.construct-item.result c.loop-construct.encoder c.add_guarded_demand.new.encoder
          (omega (arith, below)) c.construct-item.is c.loop-construct.invariant.made made;
      truth = made.truth ∙ c.loop-construct.invariant.truth;
      next = omega (arith, made.next, small, c.loop-construct.invariant.next);
    }
