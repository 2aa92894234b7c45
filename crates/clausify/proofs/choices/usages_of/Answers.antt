use Rattle.std.proofs.Common.{List, sym, subst, ◌∙◌, arith}
use Rattle.clausify.specs.Choices.{Choice, choices}
use Rattle.clausify.proofs.Remaining.{UsagesLeft, choice_at, choices_taken, choices_passed, usages_step, usages_room}
use Rattle.clausify.proofs.choices.usages_of.Goals as goal
use Rattle.clausify.proofs.choices.usages_of.Goals.{then-active+in_ok-add_usages, else-active}

pub add_usages-requires-clause-room : goal.add_usages-requires-clause-room
add_usages-requires-clause-room c =
    usages_room _ _ _ _ _ _ _ _ _ (choice_at c.args.book.now c.args.day c.position-item.result c.loop-place.place) _ c.loop-place.invariant
    (choices_taken c.args.book.now c.args.day c.positions-position-items.result.now c.loop-place.place c.position-item.result
    (omega arith) c.position-item.is (sym c.active.ensures ∙ c.if-active.true))
    c.requires

pub loop-place-preserved : goal.loop-place-preserved
loop-place-preserved c =
    elim c.if-active.branch [
      | then-active+in_ok-add_usages w ↦
          rw (w.encoder-is, w.starts-is, w.usages-is)
          (usages_step c.args.book.now c.args.encoder.now c.loop-place.encoder w.add_usages.new.encoder c.args.starts.now.items c.loop-place.starts.items w.add_usages.new.starts.items c.loop-place.usages.items w.add_usages.new.usages.items _ _ _
          (choice_at c.args.book.now c.args.day c.position-item.result c.loop-place.place) c.loop-place.invariant
          (choices_taken c.args.book.now c.args.day c.positions-position-items.result.now c.loop-place.place c.position-item.result
          (omega arith) c.position-item.is (sym c.active.ensures ∙ w.if-active.true))
          w.in_ok-add_usages.ensures.made w.in_ok-add_usages.ensures.starts w.in_ok-add_usages.ensures.usages)
      | else-active w ↦
          rw (w.encoder-is, w.starts-is, w.usages-is)
          (subst (λ (cs : List Choice). UsagesLeft c.args.book.now c.args.encoder.now c.loop-place.encoder c.args.starts.now.items c.loop-place.starts.items c.loop-place.usages.items (choices c.args.book.now c.args.day) cs)
          (choices_passed c.args.book.now c.args.day c.positions-position-items.result.now c.loop-place.place c.position-item.result
          (omega arith) c.position-item.is (sym c.active.ensures ∙ w.if-active.false))
          c.loop-place.invariant)
    ]
