use Rattle.book_model.proofs.GroupLemmas.{AreGroupsTo}
use Rattle.book_model.proofs.groups.VariantGroups.of.Given as goal

abbrev pub invariant-loop-place : goal.invariant-loop-place
invariant-loop-place l = AreGroupsTo l.positions l.variants l.place l.groups
