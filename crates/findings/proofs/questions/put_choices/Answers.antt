use Rattle.std.proofs.Common.{◌++◌, ℕ, List, sym, ap, ◌∙◌, arith}
use Rattle.std.specs.List.{flat_map}
use Rattle.clausify.specs.Choices.{Choice}
use Rattle.clausify.specs.Questions.{choice_questions}
use Rattle.clausify.proofs.Remaining.{choice_at, choices_taken, choices_passed}
use Rattle.findings.proofs.QuestionSteps.{choices_step}
use Rattle.findings.proofs.questions.put_choices.Goals as goal
use Rattle.findings.proofs.questions.put_choices.Goals.{then-active+in_ok-variants+in_ok-put_choice, else-active}

pub loop-place-preserved : goal.loop-place-preserved
loop-place-preserved c =
    elim c.if-active.branch [
      | then-active+in_ok-variants+in_ok-put_choice w ↦
          rw (w.questions-is)
          (choices_step c.loop-place.questions.items w.put_choice.new.questions.items _ (choice_at c.args.book.now c.args.day c.position-item.result c.loop-place.place) _ _
          (choices_taken c.args.book.now c.args.day c.positions-position-items.result.now c.loop-place.place c.position-item.result
          (omega arith) c.position-item.is (sym c.active.ensures ∙ w.if-active.true))
          c.loop-place.invariant
          (w.in_ok-put_choice.ensures
          ∙ ap (λ (vs : List ℕ). c.loop-place.questions.items ++ choice_questions (record { position = c.loop-place.place; mandatory = c.position-item.result.mandatory; variants = vs })) (w.deref.ensures.value ∙ w.in_ok-variants.ensures)))
      | else-active w ↦
          rw (w.questions-is)
          (ap (λ (cs : List Choice). c.loop-place.questions.items ++ flat_map choice_questions cs)
          (sym (choices_passed c.args.book.now c.args.day c.positions-position-items.result.now c.loop-place.place c.position-item.result
          (omega arith) c.position-item.is (sym c.active.ensures ∙ w.if-active.false)))
          ∙ c.loop-place.invariant)
    ]
