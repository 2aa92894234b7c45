use Rattle.std.proofs.Common.{sym, subst}
use Rattle.std.proofs.lemmas.List.Elements.{All-push}
use Rattle.pb_outside.specs.MemoryLink.{Exchange}
use Rattle.pb_door.specs.LinkTold.{IsUnwritten}
use Rattle.pb_door.specs.MemoryPort.{AreUnwritten, exchange_told}
use Rattle.worked_runs.proofs.door.links_at.Goals as goal
use Rattle.worked_runs.proofs.door.links_at.Goals.{then-link-port+in_ok-one+in_ok-push, else-link-port}

pub loop-link-preserved : goal.loop-link-preserved
loop-link-preserved c =
    let unwritten = λ (e : Exchange). IsUnwritten (exchange_told e) in
    elim c.if-link-port.branch [
      | then-link-port+in_ok-one+in_ok-push w ↦
          rw w.given-is
          (subst AreUnwritten (sym w.in_ok-push.ensures.items) (All-push unwritten c.loop-link.given.items w.in_ok-one.one c.loop-link.invariant w.in_ok-one.ensures))
      | else-link-port w ↦ rw w.given-is c.loop-link.invariant
    ]
