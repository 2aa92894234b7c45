use Rattle.std.proofs.Common.{◌≡◌, ◌++◌, drop}
use Rattle.pb_base.specs.Picked.{picked_from, picked}
use Rattle.book_compare.proofs.notes.picked.Given as goal

abbrev pub invariant-loop-place : goal.invariant-loop-place
invariant-loop-place l = l.names.items ++ picked_from l.place l.set (drop l.place l.codes) ≡ picked l.codes l.set
