use Rattle.std.proofs.Common.{◌≡◌, ◌++◌, drop, map}
use Rattle.clausify.specs.Items.{free_item}
use Rattle.wide_clauses.proofs.WideLeft.{WideLeft}
use Rattle.supplement_findings.specs.Clauses.{all_other, all_other_lits}
use Rattle.supplement_findings.proofs.together.add_all_other.Given as goal

abbrev pub invariant-loop-question : goal.invariant-loop-question
invariant-loop-question l = record {
  made : WideLeft l.initial.encoder l.encoder (map free_item (all_other l.book l.questions)) (map free_item (all_other l.book (drop l.question-index l.questions)));
  lits : l.all.items ++ all_other_lits l.book l.codes l.known l.encoder.next (drop l.question-index l.questions)
      ≡ all_other_lits l.book l.codes l.known l.initial.encoder.next l.questions;
}
