use Rattle.std.proofs.Common.{◌≡◌, ◌++◌, drop}
use Rattle.command_words.specs.Prepared.{texts_of, lent}
use Rattle.command_words.proofs.ask_words.take_all.Given as goal

abbrev pub invariant-loop-word : goal.invariant-loop-word
invariant-loop-word l = lent l.kept.items ++ texts_of (drop l.word-index l.words) ≡ lent l.initial.kept.items ++ texts_of l.words
