use Rattle.std.proofs.Common.{◌≡◌}
use Rattle.pb_door.specs.PortTold.{ports_below}
use Rattle.tcp_door.proofs.door.open_ports.Given as goal

abbrev pub invariant-loop-number : goal.invariant-loop-number
invariant-loop-number g l = record {
  told : l.ports.items ≡ ports_below l.links l.workers l.number;
}
