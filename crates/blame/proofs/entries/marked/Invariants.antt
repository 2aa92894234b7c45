use Rattle.std.proofs.Common.{take}
use Rattle.blame.specs.Entries.{Among}
use Rattle.blame.proofs.entries.marked.Given as goal

abbrev pub invariant-loop-place : goal.invariant-loop-place
invariant-loop-place l = Among (take l.place l.all) l.used.items
