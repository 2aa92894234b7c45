use Rattle.std.proofs.Common.{◌≡◌, ◌++◌, map}
use Rattle.std.specs.Vec.Iter.{into_iter_items}
use Rattle.book_commands.specs.declared.log.Note.TheVariants.{Change}
use Rattle.book_commands.proofs.changing.noted.Given as goal

abbrev pub invariant-loop-run : goal.invariant-loop-run
invariant-loop-run l = l.log.items ++ map Change (into_iter_items l.run-iterator) ≡ map Change l.fn.runs.items
