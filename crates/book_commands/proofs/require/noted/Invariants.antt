use Rattle.std.proofs.Common.{◌≡◌, ◌++◌, map}
use Rattle.std.specs.Vec.Iter.{into_iter_items}
use Rattle.book_commands.specs.declared.log.Note.TheVariants.{Requirement as RequirementLogged}
use Rattle.book_commands.proofs.require.noted.Given as goal

abbrev pub invariant-loop-note : goal.invariant-loop-note
invariant-loop-note l = l.log.items ++ map RequirementLogged (into_iter_items l.note-iterator) ≡ map RequirementLogged l.fn.notes.items
