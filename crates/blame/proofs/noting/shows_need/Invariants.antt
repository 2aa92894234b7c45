use Rattle.std.proofs.Common.{◌≡◌, ℕ, ◌<◌, true, Some, slice_get}
use Rattle.pb_base.specs.Sets.{has}
use Rattle.blame.specs.Entries.{meets_entry}
use Rattle.blame.specs.declared.entries.Entry.{Entry}
use Rattle.blame.proofs.noting.shows_need.Given as goal

abbrev pub invariant-loop-place : goal.invariant-loop-place
invariant-loop-place l = (k : ℕ) (e : Entry) → k < l.place → slice_get l.case.entries.now k ≡ Some e → has l.kept k ≡ true → (k ≡ l.at → ⊥) → meets_entry l.case.book.now l.case.day l.set e ≡ true
