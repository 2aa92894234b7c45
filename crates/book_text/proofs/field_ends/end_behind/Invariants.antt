use Rattle.book_text.specs.Plain.{NoFieldEnds}
use Rattle.book_text.proofs.field_ends.end_behind.Given as goal

abbrev pub invariant-loop-place : goal.invariant-loop-place
invariant-loop-place l = NoFieldEnds l.text 0 l.place
