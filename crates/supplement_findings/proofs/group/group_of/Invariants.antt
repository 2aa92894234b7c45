use Rattle.std.proofs.Common.{◌≡◌, take}
use Rattle.supplement_findings.specs.Answering.{IsGroup}
use Rattle.supplement_findings.proofs.group.group_of.Given as goal

abbrev pub invariant-loop-place : goal.invariant-loop-place
invariant-loop-place l = record {
  len : l.group.len ≡ l.place;
  group : IsGroup l.book (take l.place l.questions) l.group;
}
