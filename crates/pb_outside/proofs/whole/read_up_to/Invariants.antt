use Rattle.std.proofs.Common.{◌≡◌, ◌≤◌, ◌-◌, vec_len}
use Rattle.pb_outside.specs.Faults.{IsLater}
use Rattle.pb_outside.proofs.ReadSoFar.{HasRead}
use Rattle.pb_outside.proofs.whole.read_up_to.Given as goal

abbrev pub invariant-loop-bytes : goal.invariant-loop-bytes
invariant-loop-bytes g l = record {
  in_limit : vec_len l.bytes ≤ l.limit;
  read : HasRead (g.S.Ends.input l.initial.source).left (g.S.Ends.input l.source).left l.bytes.items;
  stays : (g.S.Ends.input l.source).faults.count ≡ (g.S.Ends.input l.initial.source).faults.count;
  later : IsLater (g.S.Ends.input l.initial.source).faults (g.S.Ends.input l.source).faults;
  other_end : g.S.Ends.output l.source ≡ g.S.Ends.output l.initial.source;
  same_names : g.S.Ends.names l.source ≡ g.S.Ends.names l.initial.source;
}

abbrev pub decreases-loop-bytes : goal.decreases-loop-bytes
decreases-loop-bytes g l = l.limit - vec_len l.bytes
