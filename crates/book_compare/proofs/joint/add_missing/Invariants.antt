use Rattle.std.proofs.Common.{drop, map}
use Rattle.clausify.proofs.Remaining.{ItemsLeft}
use Rattle.book_compare.specs.JointItems.{absent_item}
use Rattle.book_compare.specs.Numbering.{missing_from}
use Rattle.book_compare.proofs.joint.add_missing.Given as goal

abbrev pub invariant-loop-place : goal.invariant-loop-place
invariant-loop-place l =
    ItemsLeft l.initial.encoder l.encoder (map absent_item (missing_from 0 l.second l.first)) (map absent_item (missing_from l.place l.second (drop l.place l.first)))
