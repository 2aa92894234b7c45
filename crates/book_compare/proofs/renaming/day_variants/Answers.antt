use Rattle.std.proofs.Common.{sym, ◌∙◌, arith}
use Rattle.book_compare.proofs.StepRuns.{taken_more, passed_more}
use Rattle.book_compare.proofs.renaming.day_variants.Goals as goal
use Rattle.book_compare.proofs.renaming.day_variants.Goals.{then-active+in_ok-push_active, else-active}

pub loop-place-preserved : goal.loop-place-preserved
loop-place-preserved c =
    elim c.if-active.branch [
      | then-active+in_ok-push_active w ↦
          rw (w.variants-is)
          (taken_more c.args.book.now c.args.day c.positions-position-items.result.now c.loop-place.place c.position-item.result c.loop-place.variants.items _ (omega arith) c.position-item.is
          c.loop-place.invariant w.push_active.new.variants.items (sym c.active.ensures ∙ w.if-active.true) w.in_ok-push_active.ensures)
      | else-active w ↦
          rw (w.variants-is)
          (passed_more c.args.book.now c.args.day c.positions-position-items.result.now c.loop-place.place c.position-item.result c.loop-place.variants.items _ (omega arith) c.position-item.is
          c.loop-place.invariant (sym c.active.ensures ∙ w.if-active.false))
    ]
