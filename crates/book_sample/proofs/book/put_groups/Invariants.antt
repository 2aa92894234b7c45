use Rattle.std.proofs.Common.{◌≡◌, ◌-◌, ◌++◌}
use Rattle.book_sample.specs.Groups.{groups}
use Rattle.book_sample.specs.Lines.{groups_text}
use Rattle.book_sample.proofs.book.put_groups.Given as goal

-- the text with the groups that are left
abbrev pub invariant-loop-number : goal.invariant-loop-number
invariant-loop-number l =
    l.text ++ groups_text l.number (groups (l.count - l.number) l.number l.draws) ≡ l.initial.text ++ groups_text 0 (groups l.count 0 l.initial.draws)
