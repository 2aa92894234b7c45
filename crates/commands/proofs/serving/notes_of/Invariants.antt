use Rattle.std.proofs.Common.{◌≡◌, ◌++◌, drop, map}
use Rattle.commands.specs.Serves.{link_notes}
use Rattle.commands.proofs.serving.notes_of.Given as goal

-- the notes of the ports that are still to come
abbrev pub invariant-loop-ends : goal.invariant-loop-ends
invariant-loop-ends l = l.notes.items ++ link_notes (map (λ f. f.items) (drop l.ends-index l.faults)) ≡ link_notes (map (λ f. f.items) l.faults)
