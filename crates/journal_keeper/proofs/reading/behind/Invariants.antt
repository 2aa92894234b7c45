use Rattle.std.proofs.Common.{◌≡◌, drop}
use Rattle.journal_keeper.specs.Journal.{behind}
use Rattle.journal_keeper.proofs.reading.behind.Given as goal

-- what is left of the front is looked for in what is left of the file
abbrev pub invariant-loop-byte : goal.invariant-loop-byte
invariant-loop-byte l = behind (drop l.byte-index l.front) l.rest ≡ behind l.front l.file
