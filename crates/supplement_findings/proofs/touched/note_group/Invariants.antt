use Rattle.std.proofs.Common.{take, eqb}
use Rattle.std.specs.List.{list_any}
use Rattle.supplement_findings.specs.Touching.{IsNoted}
use Rattle.supplement_findings.proofs.touched.note_group.Given as goal

abbrev pub invariant-loop-code : goal.invariant-loop-code
invariant-loop-code l = IsNoted l.place (λ c. list_any (λ k. eqb k c) (take l.code-index l.group)) l.initial.table l.table
