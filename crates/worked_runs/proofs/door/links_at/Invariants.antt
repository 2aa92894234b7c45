use Rattle.pb_door.specs.MemoryPort.{AreUnwritten}
use Rattle.worked_runs.proofs.door.links_at.Given as goal

-- no link so far has taken anything
abbrev pub invariant-loop-link : goal.invariant-loop-link
invariant-loop-link l = AreUnwritten l.given.items
