use Rattle.std.proofs.Common.{◌≡◌, drop}
use Rattle.firing_sequence.specs.Sequence.{zip_all}
use Rattle.book_changes.specs.Alike.{same_differ}
use Rattle.book_changes.proofs.alike.same_differs.Given as goal

abbrev pub invariant-loop-at : goal.invariant-loop-at
invariant-loop-at l = zip_all same_differ (drop l.at l.own) (drop l.at l.other) ≡ zip_all same_differ l.own l.other
