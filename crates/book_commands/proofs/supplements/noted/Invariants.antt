use Rattle.std.proofs.Common.{◌≡◌, ◌++◌, map}
use Rattle.std.specs.Vec.Iter.{into_iter_items}
use Rattle.book_commands.specs.declared.log.Note.TheVariants.{Supplement}
use Rattle.book_commands.proofs.supplements.noted.Given as goal

abbrev pub invariant-loop-note : goal.invariant-loop-note
invariant-loop-note l = l.notes.items ++ map Supplement (into_iter_items l.note-iterator) ≡ map Supplement l.fn.report
