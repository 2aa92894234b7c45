use Rattle.std.proofs.Common.{◌≡◌, ◌++◌, drop}
use Rattle.std.specs.List.{flat_map}
use Rattle.order_text.specs.OutcomeText.{parts_line}
use Rattle.order_text.proofs.parts.put_parts.Given as goal

-- the text so far and the lines that are left make the whole
abbrev pub invariant-loop-line : goal.invariant-loop-line
invariant-loop-line l = l.text ++ flat_map (parts_line l.book) (drop l.line-index l.lines) ≡ l.initial.text ++ flat_map (parts_line l.book) l.lines
