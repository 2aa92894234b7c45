use Rattle.std.proofs.Common.{◌≡◌, ◌++◌, drop}
use Rattle.blame.specs.Entries.{active_from, is_active_construct, construct_entries}
use Rattle.blame.specs.declared.entries.Entry.TheVariants.{Construct}
use Rattle.blame.proofs.entries.push_constructs.Given as goal

abbrev pub invariant-loop-place : goal.invariant-loop-place
invariant-loop-place l =
    l.all.items ++ active_from (is_active_construct l.day) (λ p. Construct p) l.place (drop l.place l.book.constructs)
    ≡ l.initial.all.items ++ construct_entries l.book l.day
