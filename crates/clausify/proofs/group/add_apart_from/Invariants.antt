use Rattle.std.proofs.Common.{◌≡◌, ◌++◌, drop, map}
use Rattle.clausify.specs.Items.{apart_literals, clause_where}
use Rattle.clausify.specs.Joints.{GrowsBy}
use Rattle.clausify.proofs.group.add_apart_from.Given as goal

-- the clauses so far, and those with the codes that are left
abbrev pub invariant-loop-second : goal.invariant-loop-second
invariant-loop-second l = record {
  clauses : l.pool.clauses ++ map (clause_where l.guard) (map apart_literals (map (λ second. (l.first, second)) (drop l.second-index l.later)))
      ≡ l.initial.pool.clauses ++ map (clause_where l.guard) (map apart_literals (map (λ second. (l.first, second)) l.later));
  grows : GrowsBy l.initial.pool.clauses l.pool.clauses;
}
