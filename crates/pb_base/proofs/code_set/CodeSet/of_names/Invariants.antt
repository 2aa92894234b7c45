use Rattle.std.proofs.Common.{◌≡◌, [], take, drop}
use Rattle.pb_base.specs.NamedSet.{named, first_fault}
use Rattle.pb_base.proofs.code_set.CodeSet.of_names.Given as goal

-- the set is that of the names so far, and the first fault is that of the names that are left
abbrev pub invariant-loop-place : goal.invariant-loop-place
invariant-loop-place l = record {
  marked : l.set ≡ named l.table (take l.place l.names);
  fault : first_fault l.table [] l.names ≡ first_fault l.table (take l.place l.names) (drop l.place l.names);
}
