use Rattle.std.proofs.Common.{◌≡◌, ◌+◌, ◌++◌, drop}
use Rattle.book_compare.specs.Keys.{any_clauses, any_literal}
use Rattle.book_compare.proofs.position.Asking.any.Given as goal

-- the clauses so far, then those that join the literals that are left
abbrev pub invariant-loop-lit : goal.invariant-loop-lit
invariant-loop-lit l = record {
  clauses : l.self.pool.clauses ++ any_clauses l.self.next l.named (drop l.lit-index l.rest) ≡ l.initial.self.pool.clauses ++ any_clauses l.initial.self.next l.fn.first l.rest;
  next : l.self.next ≡ l.initial.self.next + l.lit-index;
  literal : any_literal l.self.next l.named (drop l.lit-index l.rest) ≡ any_literal l.initial.self.next l.fn.first l.rest;
  ways : l.self.ways.items ≡ l.initial.self.ways.items;
}
