use Rattle.std.proofs.Common.{◌≡◌, ◌++◌}
use Rattle.std.specs.List.{flat_map}
use Rattle.std.specs.Vec.Iter.{into_iter_items}
use Rattle.book_commands.specs.Free.{state_notes}
use Rattle.book_commands.proofs.free.put_states.Given as goal

abbrev pub invariant-loop-state : goal.invariant-loop-state
invariant-loop-state l = l.notes.items ++ flat_map state_notes (into_iter_items l.state-iterator) ≡ l.initial.notes.items ++ flat_map state_notes l.fn.states.items
