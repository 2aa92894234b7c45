use Rattle.std.proofs.Common.{◌≡◌, ◌++◌, drop}
use Rattle.std.specs.List.{flat_map}
use Rattle.order_repair.specs.RepairText.{code_in}
use Rattle.order_repair.proofs.lines.codes_in.Given as goal

abbrev pub invariant-loop-entry : goal.invariant-loop-entry
invariant-loop-entry l = l.codes.items ++ flat_map code_in (drop l.entry-index l.entries) ≡ flat_map code_in l.entries
