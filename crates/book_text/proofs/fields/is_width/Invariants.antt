use Rattle.std.proofs.Common.{◌≡◌, drop}
use Rattle.std.specs.List.{list_all}
use Rattle.book_text.specs.Fields.{is_empty}
use Rattle.book_text.proofs.fields.is_width.Given as goal

-- what is left is empty exactly where all behind the width is
abbrev pub invariant-loop-place : goal.invariant-loop-place
invariant-loop-place l = list_all is_empty (drop l.place l.row) ≡ list_all is_empty (drop l.width l.row)
