use Rattle.std.proofs.Common.{◌≡◌, drop}
use Rattle.std.specs.List.{position_from}
use Rattle.book_model.specs.Good.{breaks}
use Rattle.parts_usage.specs.Broken.{first_broken_of}
use Rattle.parts_usage.proofs.broken.first_broken.Given as goal

-- what is found is found in the rules that are left
abbrev pub invariant-loop-place : goal.invariant-loop-place
invariant-loop-place l =
    first_broken_of l.book l.day l.set ≡ position_from (breaks l.day l.set) l.place (drop l.place l.book.constructs)
