use Rattle.std.proofs.Common.{◌≡◌, ◌++◌, drop}
use Rattle.command_words.specs.Prepared.{texts_of}
use Rattle.command_words.proofs.several.copy_all.Given as goal

abbrev pub invariant-loop-word : goal.invariant-loop-word
invariant-loop-word l = texts_of l.kept.items ++ texts_of (drop l.word-index l.words) ≡ texts_of l.initial.kept.items ++ texts_of l.words
