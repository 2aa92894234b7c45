use Rattle.std.proofs.Common.{sym, ◌∙◌, arith}
use Rattle.book_compare.proofs.StepRuns.{added_more, added_passed}
use Rattle.book_compare.proofs.joint.add_added.Goals as goal
use Rattle.book_compare.proofs.joint.add_added.Goals.{then-lacks+in_ok-add_absent_code, else-lacks}

pub loop-place-preserved : goal.loop-place-preserved
loop-place-preserved c =
    elim c.if-lacks.branch [
      | then-lacks+in_ok-add_absent_code w ↦
          rw (w.encoder-is, w.next-is)
          (record {
            made = added_more c.args.encoder.now c.loop-place.encoder _ c.loop-place.next c.args.first.now c.args.second.now c.loop-place.place c.name_of.result.now c.name_of.ensures c.loop-place.invariant.made
                w.add_absent_code.new.encoder (sym c.lacks.ensures ∙ w.if-lacks.true) w.in_ok-add_absent_code.ensures;
            few = omega (arith, c.loop-place.invariant.few);
          })
      | else-lacks w ↦
          rw (w.encoder-is, w.next-is)
          (record {
            made = added_passed c.args.encoder.now c.loop-place.encoder _ c.loop-place.next c.args.first.now c.args.second.now c.loop-place.place c.name_of.result.now c.name_of.ensures c.loop-place.invariant.made
                (sym c.lacks.ensures ∙ w.if-lacks.false);
            few = omega (arith, c.loop-place.invariant.few);
          })
    ]
