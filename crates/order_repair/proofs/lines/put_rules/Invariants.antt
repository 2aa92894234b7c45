use Rattle.std.proofs.Common.{◌≡◌, ◌++◌, drop}
use Rattle.std.specs.List.{flat_map}
use Rattle.order_repair.specs.RepairText.{rule_behind}
use Rattle.order_repair.proofs.lines.put_rules.Given as goal

abbrev pub invariant-loop-entry : goal.invariant-loop-entry
invariant-loop-entry l = l.text ++ flat_map (rule_behind l.book) (drop l.entry-index l.entries) ≡ l.initial.text ++ flat_map (rule_behind l.book) l.entries
