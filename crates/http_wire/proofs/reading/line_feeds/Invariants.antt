use Rattle.std.proofs.Common.{◌≡◌, ◌≤◌, ◌+◌, drop, count_by}
use Rattle.http_wire.specs.Front.{is_line_feed}
use Rattle.http_wire.proofs.reading.line_feeds.Given as goal

-- the line feeds so far, and those of the rest
abbrev pub invariant-loop-b : goal.invariant-loop-b
invariant-loop-b l = record {
  few : l.count ≤ l.b-index;
  all : l.count + count_by is_line_feed (drop l.b-index l.block) ≡ count_by is_line_feed l.block;
}
