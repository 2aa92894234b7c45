use Rattle.std.proofs.Common.{◌≡◌, ◌-◌, ◌≤◌, length, reverse}
use Rattle.pb_base.specs.Rule.{Rule, negated}
use Rattle.rule_text.specs.FirstFault.{without_signs}
use Rattle.rule_text.specs.Reading.{under_signs}
use Rattle.rule_text.proofs.reader.take_signs.Given as goal

-- what was taken away so far are signs
abbrev pub invariant-loop-pending : goal.invariant-loop-pending
invariant-loop-pending l = record {
  fewer : length l.pending.items ≤ l.all;
  left : without_signs (reverse l.pending.items) ≡ without_signs (reverse l.initial.pending.items);
  count : (rule : Rule) → under_signs (reverse l.initial.pending.items) rule ≡ under_signs (reverse l.pending.items) (negated (l.all - length l.pending.items) rule);
}

abbrev pub decreases-loop-pending : goal.decreases-loop-pending
decreases-loop-pending l = length l.pending.items
