use Rattle.std.proofs.Common.{◌≡◌, ◌++◌, drop}
use Rattle.blame.specs.Entries.{active_from, is_active_supplement, supplement_entries}
use Rattle.blame.specs.declared.entries.Entry.TheVariants.{Supplement}
use Rattle.blame.proofs.entries.push_supplements.Given as goal

abbrev pub invariant-loop-place : goal.invariant-loop-place
invariant-loop-place l =
    l.all.items ++ active_from (is_active_supplement l.day) (λ p. Supplement p) l.place (drop l.place l.book.supplements)
    ≡ l.initial.all.items ++ supplement_entries l.book l.day
