use Rattle.std.proofs.Common.{◌≡◌, ◌++◌, drop}
use Rattle.commands.specs.Serves.{port_notes}
use Rattle.commands.proofs.serving.put_notes.Given as goal

-- the notes of the ends that are still to come
abbrev pub invariant-loop-end : goal.invariant-loop-end
invariant-loop-end l = l.notes.items ++ port_notes (drop l.end-index l.ends) ≡ l.initial.notes.items ++ port_notes l.ends
