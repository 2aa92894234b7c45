use Rattle.std.proofs.Common.{◌≡◌, ◌++◌, drop}
use Rattle.free_answers.specs.FreeText.{lines_from}
use Rattle.free_answers.proofs.lines.put_lines.Given as goal

-- the text so far and the lines that are left make the whole
abbrev pub invariant-loop-place : goal.invariant-loop-place
invariant-loop-place l = l.text ++ lines_from l.place l.completed l.states (drop l.place l.codes) ≡ l.initial.text ++ lines_from 0 l.completed l.states l.codes
