use Rattle.std.proofs.Common.{◌≡◌, ◌++◌, length}
use Rattle.command_words.specs.Prepared.{texts_of, lent}
use Rattle.command_words.specs.AskWords.{short_front, behind_short}
use Rattle.command_words.proofs.ask_words.take_short.Given as goal

-- none of the words so far begins with `--`, and they were kept
abbrev pub invariant-loop-word : goal.invariant-loop-word
invariant-loop-word l = record {
  kept : lent l.kept.items ++ short_front (texts_of l.left) ≡ lent l.initial.kept.items ++ short_front (texts_of l.words);
  behind : behind_short (texts_of l.left) ≡ behind_short (texts_of l.words);
}

abbrev pub decreases-loop-word : goal.decreases-loop-word
decreases-loop-word l = length l.left
