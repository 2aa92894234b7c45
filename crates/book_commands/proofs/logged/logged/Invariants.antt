use Rattle.std.proofs.Common.{◌≡◌, ◌≤◌, ◌+◌, ◌++◌}
use Rattle.std.specs.Vec.Iter.{into_iter_items}
use Rattle.pb_base.specs.declared.limits.TheConstants.{MOST_SLICES}
use Rattle.book_commands.specs.Logged.{logged, logged_behind, slices_told}
use Rattle.book_commands.proofs.logged.logged.Given as goal

-- the notes so far and those that are left make the whole, of so many slices
abbrev pub invariant-loop-told : goal.invariant-loop-told
invariant-loop-told l = record {
  whole : l.notes.items ++ logged_behind l.slices (into_iter_items l.told-iterator) ≡ logged l.fn.report;
  few : l.slices + slices_told (into_iter_items l.told-iterator) ≤ MOST_SLICES;
}
