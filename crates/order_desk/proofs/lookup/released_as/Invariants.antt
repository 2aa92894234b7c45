use Rattle.std.proofs.Common.{◌≡◌, ◌+◌, drop}
use Rattle.std.specs.List.{position_from}
use Rattle.order_desk.specs.Tables.{is_of, released_as}
use Rattle.order_desk.proofs.lookup.released_as.Given as goal

-- what is found is found among the books that are left
abbrev pub invariant-loop-place : goal.invariant-loop-place
invariant-loop-place l =
    released_as l.books l.draft l.revision ≡ position_from (is_of l.draft l.revision) (l.place + 1) (drop l.place l.books)
