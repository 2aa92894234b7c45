use Rattle.std.proofs.Common.{drop, length, map}
use Rattle.book_compare.specs.Asked.{key_literals}
use Rattle.book_compare.proofs.KeyRuns.{KeysLeft}
use Rattle.book_compare.proofs.position.Asking.keys.Given as goal

abbrev pub invariant-loop-key : goal.invariant-loop-key
invariant-loop-key l =
    KeysLeft (length l.first.codes) l.initial.self l.self (map (key_literals l.first l.first_usages l.second l.second_usages) l.keys)
    (map (key_literals l.first l.first_usages l.second l.second_usages) (drop l.key-index l.keys))
