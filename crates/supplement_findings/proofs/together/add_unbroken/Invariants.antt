use Rattle.std.proofs.Common.{◌≡◌, ◌++◌, drop, map}
use Rattle.wide_clauses.specs.WideItems.{wide_literals}
use Rattle.clausify.specs.Items.{free_item}
use Rattle.wide_clauses.proofs.WideLeft.{WideLeft}
use Rattle.supplement_findings.specs.Clauses.{unbroken_rules}
use Rattle.supplement_findings.proofs.together.add_unbroken.Given as goal

abbrev pub invariant-loop-code : goal.invariant-loop-code
invariant-loop-code l = record {
  made : WideLeft l.initial.encoder l.encoder (map free_item (unbroken_rules l.book l.day l.codes)) (map free_item (unbroken_rules l.book l.day (drop l.code-index l.codes)));
  literals : l.lits.items ++ wide_literals l.initial.encoder.truth l.encoder.next (unbroken_rules l.book l.day (drop l.code-index l.codes))
      ≡ wide_literals l.initial.encoder.truth l.initial.encoder.next (unbroken_rules l.book l.day l.codes);
}
