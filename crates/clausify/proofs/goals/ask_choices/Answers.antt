use Rattle.std.proofs.Common.{List, length, sym, subst, ◌∙◌, arith}
use Rattle.clausify.specs.Choices.{Choice, choices}
use Rattle.clausify.specs.Coded.{usages_start}
use Rattle.clausify.proofs.Remaining.{ChoicesLeft, choice_at, choices_taken, choices_passed, choices_step, choices_room, own_usages}
use Rattle.clausify.proofs.goals.ask_choices.Goals as goal
use Rattle.clausify.proofs.goals.ask_choices.Goals.{then-active+in_ok-ask_choice, else-active}

pub split_at-requires : goal.split_at-requires
split_at-requires c =
    (own_usages c.args.book.now (length c.args.book.now.codes) c.loop-place.invariant.at c.loop-place.left.now
    (choice_at c.args.book.now c.args.day c.position-item.result c.loop-place.place) _ _ c.active_count-count.result c.loop-place.invariant.usages
    (choices_taken c.args.book.now c.args.day c.positions-position-items.result.now c.loop-place.place c.position-item.result
    (omega arith) c.position-item.is (sym c.active.ensures ∙ c.if-active.true))
    c.active_count-count.ensures.count).within

pub ask_choice-requires : goal.ask_choice-requires
ask_choice-requires c =
    choices_room c.args.book.now (length c.args.book.now.codes) c.args.encoder.now c.loop-place.encoder c.args.asked.now.items c.loop-place.asked.items c.loop-place.left.now
    c.split_at.result.0.now (usages_start c.args.book.now c.args.day) _ _ _ _
    (choice_at c.args.book.now c.args.day c.position-item.result c.loop-place.place) c.active_count-count.result c.loop-place.invariant
    (choices_taken c.args.book.now c.args.day c.positions-position-items.result.now c.loop-place.place c.position-item.result
    (omega arith) c.position-item.is (sym c.active.ensures ∙ c.if-active.true))
    c.active_count-count.ensures.count c.split_at.ensures.front c.requires.room

pub loop-place-preserved : goal.loop-place-preserved
loop-place-preserved c =
    elim c.if-active.branch [
      | then-active+in_ok-ask_choice w ↦
          rw (w.encoder-is, w.asked-is, w.left-is)
          (choices_step c.args.book.now (length c.args.book.now.codes) c.args.encoder.now c.loop-place.encoder w.ask_choice.new.encoder c.args.asked.now.items c.loop-place.asked.items w.ask_choice.new.asked.items
          c.loop-place.left.now w.split_at.result.0.now w.split_at.result.1.now (usages_start c.args.book.now c.args.day) _ _ _
          (choice_at c.args.book.now c.args.day c.position-item.result c.loop-place.place) w.active_count-count.result c.loop-place.invariant
          (choices_taken c.args.book.now c.args.day c.positions-position-items.result.now c.loop-place.place c.position-item.result
          (omega arith) c.position-item.is (sym c.active.ensures ∙ w.if-active.true))
          w.active_count-count.ensures.count w.split_at.ensures.front w.split_at.ensures.back
          w.in_ok-ask_choice.ensures.made w.in_ok-ask_choice.ensures.asked)
      | else-active w ↦
          rw (w.encoder-is, w.asked-is, w.left-is)
          (subst (λ (cs : List Choice). ChoicesLeft c.args.book.now (length c.args.book.now.codes) c.args.encoder.now c.loop-place.encoder c.args.asked.now.items c.loop-place.asked.items c.loop-place.left.now (usages_start c.args.book.now c.args.day) (choices c.args.book.now c.args.day) cs)
          (choices_passed c.args.book.now c.args.day c.positions-position-items.result.now c.loop-place.place c.position-item.result
          (omega arith) c.position-item.is (sym c.active.ensures ∙ w.if-active.false))
          c.loop-place.invariant)
    ]
