use Rattle.std.proofs.Common.{◌≡◌, ◌++◌, drop, map}
use Rattle.blame.specs.Absent.{absent_clause}
use Rattle.blame.proofs.unused.deny.Given as goal

-- the clauses so far, and those of the codes that are left
abbrev pub invariant-loop-code : goal.invariant-loop-code
invariant-loop-code l = record {
  clauses : l.encoder.pool.clauses ++ map absent_clause (drop l.code-index l.codes) ≡ l.initial.encoder.pool.clauses ++ map absent_clause l.codes;
  next : l.encoder.next ≡ l.initial.encoder.next;
  truth : l.encoder.truth ≡ l.initial.encoder.truth;
  first : l.encoder.gates.first ≡ l.initial.encoder.gates.first;
}
