use Rattle.std.proofs.Common.{◌≡◌, ◌<◌, ◌++◌, drop, length}
use Rattle.std.specs.List.{All}
use Rattle.book_compare.specs.Asked.{usages_in}
use Rattle.book_compare.proofs.keys.usages_in.Given as goal

abbrev pub invariant-loop-usage : goal.invariant-loop-usage
invariant-loop-usage l = record {
  usages : l.own.items ++ usages_in l.book l.position (drop l.usage-index l.usages) ≡ usages_in l.book l.position l.usages;
  in_range : All (λ u. u.variant < length l.book.variants) l.own.items;
}
