use Rattle.std.proofs.Common.{sym, ◌∙◌}
use Rattle.book_compare.proofs.StepRuns.{missing_more, missing_passed}
use Rattle.book_compare.proofs.joint.add_missing.Goals as goal
use Rattle.book_compare.proofs.joint.add_missing.Goals.{then-lacks+in_ok-add_absent_code, else-lacks}

pub loop-place-preserved : goal.loop-place-preserved
loop-place-preserved c =
    elim c.if-lacks.branch [
      | then-lacks+in_ok-add_absent_code w ↦
          rw (w.encoder-is)
          (missing_more c.args.encoder.now c.loop-place.encoder _ c.args.second.now c.args.first.now c.loop-place.place c.name_of.result.now c.name_of.ensures c.loop-place.invariant
          w.add_absent_code.new.encoder (sym c.lacks.ensures ∙ w.if-lacks.true) w.in_ok-add_absent_code.ensures)
      | else-lacks w ↦
          rw (w.encoder-is)
          (missing_passed c.args.encoder.now c.loop-place.encoder _ c.args.second.now c.args.first.now c.loop-place.place c.name_of.result.now c.name_of.ensures c.loop-place.invariant
          (sym c.lacks.ensures ∙ w.if-lacks.false))
    ]
