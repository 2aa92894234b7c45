use Rattle.std.proofs.Common.{◌+◌, ◌≤◌, drop, length, map}
use Rattle.clausify.proofs.Remaining.{ItemsLeft}
use Rattle.book_compare.specs.JointItems.{absent_item}
use Rattle.book_compare.specs.Numbering.{added_from}
use Rattle.book_compare.proofs.joint.add_added.Given as goal

abbrev pub invariant-loop-place : goal.invariant-loop-place
invariant-loop-place l = record {
  made : ItemsLeft l.initial.encoder l.encoder (map absent_item (added_from (length l.first + 1) l.first l.second)) (map absent_item (added_from l.next l.first (drop l.place l.second)));
  few : l.next ≤ length l.first + 1 + l.place;
}
