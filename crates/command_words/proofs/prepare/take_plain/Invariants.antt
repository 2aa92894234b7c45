use Rattle.std.proofs.Common.{◌≡◌, ◌++◌, length}
use Rattle.command_words.specs.Prepared.{texts_of, lent, plain_front, behind_plain}
use Rattle.command_words.proofs.prepare.take_plain.Given as goal

-- the words so far were plain, and they were kept
abbrev pub invariant-loop-word : goal.invariant-loop-word
invariant-loop-word l = record {
  kept : lent l.kept.items ++ plain_front (texts_of l.left) ≡ lent l.initial.kept.items ++ plain_front (texts_of l.words);
  behind : behind_plain (texts_of l.left) ≡ behind_plain (texts_of l.words);
}

abbrev pub decreases-loop-word : goal.decreases-loop-word
decreases-loop-word l = length l.left
