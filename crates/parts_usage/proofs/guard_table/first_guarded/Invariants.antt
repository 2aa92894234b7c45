use Rattle.std.proofs.Common.{◌≡◌, drop}
use Rattle.std.specs.List.{position_from}
use Rattle.book_model.specs.Good.{breaks}
use Rattle.parts_usage.proofs.guard_table.first_guarded.Given as goal

-- what is found is found in the rules that are left
abbrev pub invariant-loop-place : goal.invariant-loop-place
invariant-loop-place l =
    position_from (breaks l.day l.set) 0 l.constructs ≡ position_from (breaks l.day l.set) l.place (drop l.place l.constructs)
