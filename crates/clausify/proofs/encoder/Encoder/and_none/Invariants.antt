use Rattle.std.proofs.Common.{◌≡◌, ◌+◌, ◌++◌, drop}
use Rattle.clausify.specs.Goals.{none_clauses, none_literal}
use Rattle.clausify.proofs.encoder.Encoder.and_none.Given as goal

abbrev pub invariant-loop-usage : goal.invariant-loop-usage
invariant-loop-usage l = record {
  clauses : l.self.pool.clauses ++ none_clauses l.self.next l.none (drop l.usage-index l.usages)
      ≡ l.initial.self.pool.clauses ++ none_clauses l.initial.self.next l.initial.none l.usages;
  next : l.self.next ≡ l.initial.self.next + l.usage-index;
  truth : l.self.truth ≡ l.initial.self.truth;
  first : l.self.gates.first ≡ l.initial.self.gates.first;
  literal : none_literal l.self.next l.none (drop l.usage-index l.usages) ≡ none_literal l.initial.self.next l.initial.none l.usages;
}
