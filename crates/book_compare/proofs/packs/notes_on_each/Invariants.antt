use Rattle.std.proofs.Common.{take}
use Rattle.std.specs.List.{AllZip}
use Rattle.book_compare.specs.Comparison.{AreNoted}
use Rattle.book_compare.proofs.packs.notes_on_each.Given as goal

-- the packs so far are told of
abbrev pub invariant-loop-pack : goal.invariant-loop-pack
invariant-loop-pack l = AllZip (AreNoted l.comparing.first.now l.comparing.second.now l.comparing.day l.budget) (take l.pack-index l.packs) l.each.items
