use Rattle.std.proofs.Common.{◌≡◌, ◌-◌, ◌++◌}
use Rattle.book_sample.specs.Lines.{codes_text}
use Rattle.book_sample.proofs.book.put_codes.Given as goal

-- the text with the codes that are left
abbrev pub invariant-loop-number : goal.invariant-loop-number
invariant-loop-number l = l.text ++ codes_text (l.codes - l.number) l.number ≡ l.initial.text ++ codes_text l.codes 0
