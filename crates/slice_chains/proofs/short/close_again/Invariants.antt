-- The questions so far are closed.
use Rattle.std.proofs.Common.{take}
use Rattle.derivation.specs.Showing.{AllClosed}
use Rattle.slice_chains.proofs.short.close_again.Given as goal

abbrev pub invariant-loop-number : goal.invariant-loop-number
invariant-loop-number l = AllClosed l.kernel.clauses (take l.number l.asked) l.closed.items
