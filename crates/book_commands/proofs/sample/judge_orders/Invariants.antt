use Rattle.std.proofs.Common.{◌≡◌, ◌≤◌, ◌+◌, ◌-◌, ◌*◌, ◌/◌, map}
use Rattle.std.specs.List.{fold}
use Rattle.book_commands.specs.Sample.{answer_to, counted, next_orders, tally_of}
use Rattle.book_commands.proofs.sample.judge_orders.Given as goal

-- the orders that are left, behind those that were counted, make the whole; each was counted once
abbrev pub invariant-loop : goal.invariant-loop
invariant-loop l = record {
  whole : fold counted l.tally (map (answer_to l.released.book) (next_orders (l.size.orders - l.counter) l.sampler))
      ≡ tally_of l.released.book l.size;
  groups : l.sampler.groups ≡ l.size.codes / 4;
  orders : l.tally.accepted + l.tally.refused ≡ l.counter;
  lines : l.tally.parts ≤ 1000000 * l.counter;
}
