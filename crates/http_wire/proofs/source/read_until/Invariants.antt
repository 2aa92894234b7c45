use Rattle.std.proofs.Common.{◌≡◌, ◌≤◌, ◌-◌, vec_len}
use Rattle.pb_outside.specs.Faults.{IsLater}
use Rattle.http_wire.specs.Stream.{StreamStep, SameStream}
use Rattle.http_wire.proofs.source.read_until.Given as goal

abbrev pub invariant-loop-bytes : goal.invariant-loop-bytes
invariant-loop-bytes g l = record {
  within : vec_len l.bytes ≤ l.count;
  stream : StreamStep SameStream l.initial.bytes.items (g.S.Ends.input l.initial.source).left l.bytes.items (g.S.Ends.input l.source).left;
  stays : (g.S.Ends.input l.source).faults.count ≡ (g.S.Ends.input l.initial.source).faults.count;
  later : IsLater (g.S.Ends.input l.initial.source).faults (g.S.Ends.input l.source).faults;
  other_end : g.S.Ends.output l.source ≡ g.S.Ends.output l.initial.source;
  same_names : g.S.Ends.names l.source ≡ g.S.Ends.names l.initial.source;
}

abbrev pub decreases-loop-bytes : goal.decreases-loop-bytes
decreases-loop-bytes g l = l.count - vec_len l.bytes
