use Rattle.std.proofs.Common.{◌-◌, ◌≤◌, length}
use Rattle.book_text.specs.Plain.{NoFieldEnds}
use Rattle.book_text.proofs.field_ends.field_end.Given as goal

abbrev pub invariant-loads : goal.invariant-loads
invariant-loads l = (l.at ≤ length l.text) × NoFieldEnds l.text 0 l.at

abbrev pub decreases-loads : goal.decreases-loads
decreases-loads l = length l.text - l.at
