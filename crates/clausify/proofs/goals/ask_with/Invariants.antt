use Rattle.std.proofs.Common.{◌≡◌, ◌+◌, ◌++◌, drop, map}
use Rattle.clausify.specs.Goals.{pair_clauses, pairs_asked}
use Rattle.clausify.specs.declared.usage.Usage.{Usage}
use Rattle.clausify.proofs.goals.ask_with.Given as goal

abbrev pub invariant-loop-second : goal.invariant-loop-second
invariant-loop-second l = record {
  clauses : l.encoder.pool.clauses ++ pair_clauses l.encoder.next (map (λ (u : Usage). (l.first, u)) (drop l.second-index l.later))
      ≡ l.initial.encoder.pool.clauses ++ pair_clauses l.initial.encoder.next (map (λ (u : Usage). (l.first, u)) l.later);
  next : l.encoder.next ≡ l.initial.encoder.next + l.second-index;
  truth : l.encoder.truth ≡ l.initial.encoder.truth;
  first : l.encoder.gates.first ≡ l.initial.encoder.gates.first;
  asked : l.asked.items ++ pairs_asked l.position l.encoder.next (map (λ (u : Usage). (l.first, u)) (drop l.second-index l.later))
      ≡ l.initial.asked.items ++ pairs_asked l.position l.initial.encoder.next (map (λ (u : Usage). (l.first, u)) l.later);
}
