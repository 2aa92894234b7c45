use Rattle.std.proofs.Common.{◌≡◌, ◌++◌, drop}
use Rattle.std.specs.List.{flat_map}
use Rattle.order_repair.specs.RepairText.{name_behind}
use Rattle.order_repair.proofs.lines.put_each.Given as goal

abbrev pub invariant-loop-name : goal.invariant-loop-name
invariant-loop-name l = l.text ++ flat_map name_behind (drop l.name-index l.names) ≡ l.initial.text ++ flat_map name_behind l.names
