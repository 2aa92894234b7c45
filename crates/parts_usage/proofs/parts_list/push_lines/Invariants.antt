use Rattle.std.proofs.Common.{◌≡◌, ◌++◌, drop, filter}
use Rattle.book_model.specs.Parts.{lines_at, is_selected_at}
use Rattle.parts_usage.proofs.parts_list.push_lines.Given as goal

-- the lines so far, then those of the variants that are left
abbrev pub invariant-loop-variant : goal.invariant-loop-variant
invariant-loop-variant l =
    l.lines.items ++ lines_at l.place (filter (is_selected_at l.book l.day l.set) (drop l.variant-index l.variant-items))
    ≡ l.initial.lines.items ++ lines_at l.place (filter (is_selected_at l.book l.day l.set) l.variant-items)
