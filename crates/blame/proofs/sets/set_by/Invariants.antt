use Rattle.std.proofs.Common.{◌≡◌, length}
use Rattle.blame.proofs.sets.set_by.Given as goal

abbrev pub invariant-loop-code : goal.invariant-loop-code
invariant-loop-code l = length l.set ≡ length l.book.codes
