use Rattle.std.proofs.Common.{map}
use Rattle.std.specs.Prelude.{All}
use Rattle.pb_door.specs.MemoryPort.{AreUnwritten}
use Rattle.worked_runs.proofs.door.links_of.Given as goal

-- no link of a port so far has taken anything
abbrev pub invariant-loop-port : goal.invariant-loop-port
invariant-loop-port l = All AreUnwritten (map (λ links. links.items) l.ports.items)
