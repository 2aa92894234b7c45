use Rattle.std.proofs.Common.{◌≡◌, true}
use Rattle.std.specs.Prelude.{All, map}
use Rattle.pb_outside.specs.FaultPlan.{is_over}
use Rattle.pb_door.specs.MemoryDoor.{are_faultless, lists_below, plan_of, rest_after}
use Rattle.pb_door.specs.MemoryPort.{told_by}
use Rattle.pb_door.specs.PortTold.{ports_below}
use Rattle.pb_door.proofs.memory_door.open_ports.Given as goal

abbrev pub invariant-loop-number : goal.invariant-loop-number
invariant-loop-number l = record {
  told : map told_by l.ports.items ≡ ports_below l.count l.workers l.number;
  coming : map (λ p. p.coming) l.ports.items ≡ lists_below l.number (map (λ v. v.items) l.fn.links.items);
  plans : map (λ p. p.plan) l.ports.items ≡ map plan_of (lists_below l.number (map (λ v. v.items) l.fn.fails.items));
  faultless : are_faultless (map (λ v. v.items) l.fn.fails.items) ≡ true → All (λ p. is_over p.plan ≡ true) l.ports.items;
  links_left : map (λ v. v.items) l.links.items ≡ rest_after l.number (map (λ v. v.items) l.fn.links.items);
  fails_left : map (λ v. v.items) l.fails.items ≡ rest_after l.number (map (λ v. v.items) l.fn.fails.items);
}
