use Rattle.std.proofs.Common.{◌≡◌, ◌++◌, drop}
use Rattle.order_stays.specs.Stays.{codes_of}
use Rattle.order_stays.proofs.clash.codes_of.Given as goal

abbrev pub invariant-loop-entry : goal.invariant-loop-entry
invariant-loop-entry l = l.codes.items ++ codes_of (drop l.entry-index l.entries) ≡ codes_of l.entries
