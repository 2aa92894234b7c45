use Rattle.std.proofs.Common.{◌≡◌, ◌++◌, map}
use Rattle.std.specs.Vec.Iter.{into_iter_items}
use Rattle.book_commands.specs.declared.log.Note.TheVariants.{Compare}
use Rattle.book_commands.proofs.comparing.noted.Given as goal

abbrev pub invariant-loop-note : goal.invariant-loop-note
invariant-loop-note l = l.log.items ++ map Compare (into_iter_items l.note-iterator) ≡ map Compare l.fn.notes.items
