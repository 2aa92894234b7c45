-- The formulas so far have their literals.
use Rattle.std.proofs.Common.{◌≡◌, ◌+◌, ◌*◌, ◌≤◌, ◌++◌, List, drop, map, take}
use Rattle.clausify.specs.Formulas.{literals_from}
use Rattle.guarded_rules.specs.Guarded.{GuardedItem, IsGuarded}
use Rattle.book_clauses.specs.Coding.{free_usage}
use Rattle.book_clauses.proofs.coding.add_usages.Given as goal

abbrev pub invariant-loop-variant : goal.invariant-loop-variant
invariant-loop-variant l = record {
  made : (is : List GuardedItem) → IsGuarded is l.initial.encoder → IsGuarded (is ++ map free_usage (take l.variant-index l.variant-items)) l.encoder;
  truth : l.encoder.truth ≡ l.initial.encoder.truth;
  next : l.encoder.next ≤ l.initial.encoder.next + 512 * l.variant-index;
  usages : l.usages.items ++ literals_from l.initial.encoder.truth l.encoder.next (map (λ v. v.rule) (drop l.variant-index l.variant-items))
      ≡ literals_from l.initial.encoder.truth l.initial.encoder.next (map (λ v. v.rule) l.variant-items);
}
