use Rattle.std.proofs.Common.{◌≡◌, ◌++◌, drop}
use Rattle.clausify.proofs.Remaining.{ItemsLeft}
use Rattle.book_compare.specs.JointItems.{renamed_usage_items, renamed_usages}
use Rattle.book_compare.proofs.renaming.add_usages_of.Given as goal

abbrev pub invariant-loop-variant : goal.invariant-loop-variant
invariant-loop-variant l = record {
  made : ItemsLeft l.initial.encoder l.encoder (renamed_usage_items l.numbers l.book l.variants) (renamed_usage_items l.numbers l.book (drop l.variant-index l.variants));
  usages : l.usages.items ++ renamed_usages l.numbers l.book l.initial.encoder.truth l.encoder.next (drop l.variant-index l.variants)
      ≡ renamed_usages l.numbers l.book l.initial.encoder.truth l.initial.encoder.next l.variants;
}
