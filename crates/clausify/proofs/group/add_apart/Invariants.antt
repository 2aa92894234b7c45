use Rattle.std.proofs.Common.{◌≡◌, ◌++◌, drop, map}
use Rattle.clausify.specs.Items.{apart_literals, clause_where}
use Rattle.clausify.specs.Joints.{GrowsBy}
use Rattle.clausify.specs.Pairs.{pairs}
use Rattle.clausify.proofs.group.add_apart.Given as goal

-- the clauses so far, and those of the pairs among the codes that are left
abbrev pub invariant-loop-place : goal.invariant-loop-place
invariant-loop-place l = record {
  clauses : l.pool.clauses ++ map (clause_where l.guard) (map apart_literals (pairs (drop l.place l.codes)))
      ≡ l.initial.pool.clauses ++ map (clause_where l.guard) (map apart_literals (pairs l.codes));
  grows : GrowsBy l.initial.pool.clauses l.pool.clauses;
}
