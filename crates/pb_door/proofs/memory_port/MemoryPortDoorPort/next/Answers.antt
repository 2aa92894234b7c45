use Rattle.std.proofs.Common.{arith, subst}
use Rattle.std.proofs.lemmas.List.Elements.{All-tail}
use Rattle.pb_outside.specs.MemoryLink.{Exchange}
use Rattle.pb_door.specs.LinkTold.{IsUnwritten}
use Rattle.pb_door.specs.MemoryPort.{AreUnwritten, exchange_told}
use Rattle.pb_door.proofs.memory_port.MemoryPortDoorPort.next.Goals as goal

pub invariant_of-self-in-Some : goal.invariant_of-self-in-Some
invariant_of-self-in-Some c = (
  λ _. omega (arith, c.in_ok-reserve.ensures.ok),
  All-tail (λ (e : Exchange). IsUnwritten (exchange_told e)) c.in-Some.link _ (subst AreUnwritten c.in-Some.ensures.items c.self.invariant.1),
)
