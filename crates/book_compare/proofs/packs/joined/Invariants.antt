use Rattle.std.proofs.Common.{◌≡◌, ◌++◌}
use Rattle.std.specs.List.{flat_map}
use Rattle.std.specs.Vec.Iter.{into_iter_items}
use Rattle.book_compare.specs.Packs.{notes_in}
use Rattle.book_compare.proofs.packs.joined.Given as goal

abbrev pub invariant-loop-own : goal.invariant-loop-own
invariant-loop-own l = l.notes.items ++ flat_map notes_in (into_iter_items l.own-iterator) ≡ flat_map notes_in l.fn.each.items
