use Rattle.std.proofs.Common.{◌≡◌, map}
use Rattle.book_compare.specs.Source.{note_of}
use Rattle.book_compare.proofs.notes.notes_of.Given as goal

-- the notes are those by what was taken
abbrev pub invariant-loop-own : goal.invariant-loop-own
invariant-loop-own l = l.notes.items ≡ map (note_of l.codes) l.yielded
