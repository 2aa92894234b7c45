use Rattle.std.proofs.Common.{◌≡◌, length, sym, ap, subst, ◌∙◌}
use Rattle.std.specs.List.{AllZip}
use Rattle.rules_met.specs.Met.{IsAnswer}
use Rattle.rules_met.specs.declared.answer.RuleAnswer.{RuleAnswer}
use Rattle.lost_cars.proofs.NotedLaws.{answers_count}
use Rattle.lost_cars.proofs.losses.answered.Goals as goal

pub notes_of-requires-clause-counted : goal.notes_of-requires-clause-counted
notes_of-requires-clause-counted c =
    ap length c.deref.ensures.value
    ∙ answers_count c.args.own.now c.args.day c.args.budget c.args.rules.now c.in_ok-answers.answers.items c.in_ok-answers.ensures.answers ∙ sym c.requires.counted

pub returns-clause-notes : goal.returns-clause-notes
returns-clause-notes c = record {
  answers = c.deref.result.now;
  right = subst (AllZip (IsAnswer c.args.own.now c.args.day c.args.budget) c.args.rules.now) (sym c.deref.ensures.value) c.in_ok-answers.ensures.answers;
  notes_are = c.in_ok-notes.ensures;
}
