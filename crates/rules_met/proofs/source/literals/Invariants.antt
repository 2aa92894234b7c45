use Rattle.std.proofs.Common.{◌≡◌, ◌++◌, drop, map}
use Rattle.clausify.specs.Formulas.{literals_from}
use Rattle.clausify.specs.Items.{free_item}
use Rattle.clausify.proofs.Remaining.{ItemsLeft}
use Rattle.rules_met.specs.Source.{rules_at}
use Rattle.rules_met.proofs.source.literals.Given as goal

abbrev pub invariant-loop-question : goal.invariant-loop-question
invariant-loop-question l = record {
  made : ItemsLeft l.initial.encoder l.encoder (map free_item (rules_at l.rules l.questions)) (map free_item (rules_at l.rules (drop l.question-index l.questions)));
  literals : l.lits.items ++ literals_from l.initial.encoder.truth l.encoder.next (rules_at l.rules (drop l.question-index l.questions))
      ≡ literals_from l.initial.encoder.truth l.initial.encoder.next (rules_at l.rules l.questions);
}
