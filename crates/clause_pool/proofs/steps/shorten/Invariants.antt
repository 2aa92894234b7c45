use Rattle.std.proofs.Common.{◌≡◌, ◌≤◌, length, take, vec_capacity}
use Rattle.clause_pool.proofs.steps.shorten.Given as goal

abbrev pub invariant-loop-pair : goal.invariant-loop-pair
invariant-loop-pair l = record {
  items : l.short.items ≡ take l.pair-index l.pairs;
  room : length l.pairs ≤ vec_capacity l.short;
}
