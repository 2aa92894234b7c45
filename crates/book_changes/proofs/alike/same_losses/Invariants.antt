use Rattle.std.proofs.Common.{◌≡◌, drop}
use Rattle.firing_sequence.specs.Sequence.{zip_all}
use Rattle.book_changes.specs.Alike.{same_loss}
use Rattle.book_changes.proofs.alike.same_losses.Given as goal

abbrev pub invariant-loop-at : goal.invariant-loop-at
invariant-loop-at l = zip_all same_loss (drop l.at l.own) (drop l.at l.other) ≡ zip_all same_loss l.own l.other
