use Rattle.std.proofs.Common.{◌≡◌, ◌++◌, drop}
use Rattle.book_model.specs.Parts.{parts, parts_from}
use Rattle.parts_usage.proofs.parts_list.select.Given as goal

-- the lines so far, then those of the positions that are left
abbrev pub invariant-loop-place : goal.invariant-loop-place
invariant-loop-place l = l.lines.items ++ parts_from l.place l.book l.day l.set (drop l.place l.book.positions) ≡ parts l.book l.day l.set
