use Rattle.std.proofs.Common.{◌+◌, List, length, sym, ap, ◌∙◌, arith}
use Rattle.std.specs.List.{flat_map}
use Rattle.clausify.specs.Choices.{Choice}
use Rattle.clausify.specs.Questions.{choice_questions}
use Rattle.clausify.proofs.Remaining.{choice_at, choices_taken, choices_passed}
use Rattle.clausify.proofs.CountLaws.{count_begin, count_step}
use Rattle.clausify.proofs.counting.question_count.Goals as goal
use Rattle.clausify.proofs.counting.question_count.Goals.{then-active, else-active}

pub loop-place-init : goal.loop-place-init
loop-place-init c = record {
  total = count_begin c.args.book.now c.args.slice.now.first c.from.result c.positions-position-items.result.now (c.from.ensures ∙ c.len.ensures.value ∙ ap length c.codes.ensures.value) c.positions-position-items.ensures.value;
  limit = omega (arith, c.from.ensures, c.len.ensures.value, ap length c.codes.ensures.value, c.codes.ensures.book.codes_limit);
}

pub loop-place-preserved : goal.loop-place-preserved
loop-place-preserved c =
    elim c.if-active.branch [
      | then-active w ↦
          rw (w.count-is)
          (record {
            total = count_step c.loop-place.count w.choice_count-count.result w.active_count-variants.result _ _ _ (choice_at c.args.book.now c.args.slice.now.first c.position-item.result c.loop-place.place)
                c.loop-place.invariant.total
                (choices_taken c.args.book.now c.args.slice.now.first c.positions-position-items.result.now c.loop-place.place c.position-item.result
                (omega arith) c.position-item.is (sym c.active.ensures ∙ w.if-active.true))
                w.active_count-variants.ensures.count w.choice_count-count.ensures.value;
            limit = omega (arith, w.choice_count-count.ensures.limit, c.loop-place.invariant.limit);
          })
      | else-active w ↦
          rw (w.count-is)
          (record {
            total = ap (λ (cs : List Choice). c.loop-place.count + length (flat_map choice_questions cs))
                (sym (choices_passed c.args.book.now c.args.slice.now.first c.positions-position-items.result.now c.loop-place.place c.position-item.result
                (omega arith) c.position-item.is (sym c.active.ensures ∙ w.if-active.false)))
                ∙ c.loop-place.invariant.total;
            limit = omega (arith, c.loop-place.invariant.limit);
          })
    ]
