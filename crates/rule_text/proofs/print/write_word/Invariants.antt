use Rattle.std.proofs.Common.{◌≡◌, ◌++◌, ◌≤◌, length, reverse, take}
use Rattle.rule_text.proofs.print.write_word.Given as goal

-- what is left is the front of the word
abbrev pub invariant-loop-at : goal.invariant-loop-at
invariant-loop-at l = record {
  within : l.at ≤ length l.word;
  same : l.text.items ++ reverse (take l.at l.word) ≡ l.fn.text.items ++ reverse l.word;
}

abbrev pub decreases-loop-at : goal.decreases-loop-at
decreases-loop-at l = l.at
