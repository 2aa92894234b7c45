-- The rules so far are coded.
use Rattle.std.proofs.Common.{◌≡◌, ◌+◌, ◌*◌, ◌≤◌, ◌++◌, map, take}
use Rattle.guarded_rules.specs.Guarded.{IsGuarded}
use Rattle.book_clauses.specs.Coding.{guarded_construct, guarded_supplements}
use Rattle.book_clauses.proofs.coding.add_constructs.Given as goal

abbrev pub invariant-loop-construct : goal.invariant-loop-construct
invariant-loop-construct l = record {
  made : IsGuarded (guarded_supplements l.book l.periods ++ map (guarded_construct l.book l.periods) (take l.construct-index l.construct-items)) l.encoder;
  truth : l.encoder.truth ≡ l.initial.encoder.truth;
  next : l.encoder.next ≤ l.initial.encoder.next + 512 * l.construct-index;
}
