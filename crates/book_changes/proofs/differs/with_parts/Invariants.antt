use Rattle.std.specs.List.{AllZip}
use Rattle.book_changes.specs.Differs.{IsSelected}
use Rattle.book_changes.proofs.differs.with_parts.Given as goal

abbrev pub invariant-loop-note : goal.invariant-loop-note
invariant-loop-note l = AllZip (IsSelected l.first.book l.second.book l.run.first) l.yielded l.made.items
