-- The rules so far are coded.
use Rattle.std.proofs.Common.{◌≡◌, ◌+◌, ◌*◌, ◌≤◌, [], ◌++◌, map, take}
use Rattle.guarded_rules.specs.Guarded.{IsGuarded}
use Rattle.book_clauses.specs.Coding.{guarded_supplement}
use Rattle.book_clauses.proofs.coding.add_supplements.Given as goal

abbrev pub invariant-loop-supplement : goal.invariant-loop-supplement
invariant-loop-supplement l = record {
  made : IsGuarded ([] ++ map (guarded_supplement l.book l.periods) (take l.supplement-index l.supplement-items)) l.encoder;
  truth : l.encoder.truth ≡ l.initial.encoder.truth;
  next : l.encoder.next ≤ l.initial.encoder.next + 512 * l.supplement-index;
}
