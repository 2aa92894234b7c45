use Rattle.std.proofs.Common.{◌≡◌, ◌++◌, drop}
use Rattle.std.specs.List.{flat_map}
use Rattle.order_repair.specs.RepairText.{added_line}
use Rattle.order_repair.proofs.text.put_all_added.Given as goal

abbrev pub invariant-loop-one : goal.invariant-loop-one
invariant-loop-one l = l.text ++ flat_map (added_line l.book) (drop l.one-index l.added) ≡ l.initial.text ++ flat_map (added_line l.book) l.added
