use Rattle.std.proofs.Common.{◌≡◌, ◌++◌, drop}
use Rattle.wide_clauses.specs.Chains.{with_each}
use Rattle.wide_clauses.proofs.wide.WideEncoder.one_of.Given as goal

abbrev pub invariant-loop-lit : goal.invariant-loop-lit
invariant-loop-lit l = record {
  clauses : l.self.pool.clauses ++ with_each l.named (drop l.lit-index l.lits) ≡ l.initial.self.pool.clauses ++ with_each l.named l.lits;
  next : l.self.next ≡ l.initial.self.next;
  truth : l.self.truth ≡ l.initial.self.truth;
}
