use Rattle.std.proofs.Common.{◌≡◌, ◌++◌, drop, map}
use Rattle.std.specs.List.{filter}
use Rattle.clausify.specs.Choices.{is_active_variant}
use Rattle.clausify.specs.Items.{usage_item}
use Rattle.clausify.specs.Goals.{usages_from}
use Rattle.clausify.proofs.Remaining.{ActiveLeft, StartsLeft}
use Rattle.clausify.proofs.choices.add_usages.Given as goal

abbrev pub invariant-loop-variant : goal.invariant-loop-variant
invariant-loop-variant l = record {
  made : ActiveLeft (is_active_variant l.book l.day) (usage_item l.book) l.initial.encoder l.encoder l.variant-items l.variant-index;
  starts : StartsLeft l.initial.encoder l.encoder l.initial.starts.items l.starts.items (map (usage_item l.book) (filter (is_active_variant l.book l.day) l.variant-items))
      (map (usage_item l.book) (filter (is_active_variant l.book l.day) (drop l.variant-index l.variant-items)));
  usages : l.usages.items ++ usages_from l.book l.initial.encoder.truth l.encoder.next (filter (is_active_variant l.book l.day) (drop l.variant-index l.variant-items))
      ≡ l.initial.usages.items ++ usages_from l.book l.initial.encoder.truth l.initial.encoder.next (filter (is_active_variant l.book l.day) l.variant-items);
}
