use Rattle.std.proofs.Common.{List, ◌++◌, get_or, ap, ◌∙◌, arith}
use Rattle.rules_met.specs.declared.answer.RuleAnswer.{RuleAnswer}
use Rattle.lost_cars.specs.Noting.{notes_for}
use Rattle.lost_cars.specs.declared.question.Question.TheVariants.{Fires}
use Rattle.lost_cars.proofs.NotedLaws.{notes_more, notes_ended}
use Rattle.lost_cars.proofs.losses.notes_of.Goals as goal

pub loop-at-preserved : goal.loop-at-preserved
loop-at-preserved c =
    let own = c.args.own.now in
    let other = c.args.other.now in
    let qs = c.args.questions.now in
    let i = c.loop-at.at in
    notes_more own other qs c.args.answers.now i (Fires 0) c.index-answers-at.result _ _ _ (omega arith) (omega (arith, c.requires.counted))
    (c.in_ok-put.ensures ∙ ap (λ (a : RuleAnswer). c.loop-at.notes.items ++ notes_for own other (get_or qs i (Fires 0)) a) c.index-answers-at.is) c.loop-at.invariant

pub returns : goal.returns
returns c =
    notes_ended c.args.own.now c.args.other.now c.args.questions.now c.args.answers.now c.loop-at.at _ _ (omega (arith, c.loop-at-test.false)) c.loop-at.invariant
