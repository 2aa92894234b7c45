use Rattle.std.proofs.Common.{◌≡◌, ◌<◌, ◌-◌, length, vec_len}
use Rattle.pb_outside.specs.Faults.{IsLater}
use Rattle.http_wire.specs.Search.{IsSearched}
use Rattle.http_wire.specs.Stream.{StreamStep, SameStream}
use Rattle.http_wire.proofs.front_reader.read_front.Given as goal

abbrev pub invariant-loop-search : goal.invariant-loop-search
invariant-loop-search g l = record {
  searched : IsSearched l.search.skipped l.search.seen l.bytes.items;
  all : l.search.seen ≡ length l.bytes.items;
  short : length l.bytes.items < 16384;
  stream : StreamStep SameStream l.initial.bytes.items (g.S.Ends.input l.initial.source).left l.bytes.items (g.S.Ends.input l.source).left;
  stays : (g.S.Ends.input l.source).faults.count ≡ (g.S.Ends.input l.initial.source).faults.count;
  later : IsLater (g.S.Ends.input l.initial.source).faults (g.S.Ends.input l.source).faults;
  other_end : g.S.Ends.output l.source ≡ g.S.Ends.output l.initial.source;
  same_names : g.S.Ends.names l.source ≡ g.S.Ends.names l.initial.source;
}

abbrev pub decreases-loop-search : goal.decreases-loop-search
decreases-loop-search g l = 16384 - vec_len l.bytes
