-- The ports that came back.
use Rattle.std.proofs.Common.{◌≡◌, ℕ, List, length, ap, subst, arith}
use Rattle.std.specs.Prelude.{map}
use Rattle.std.proofs.lemmas.List.{length-map}
use Rattle.pb_door.specs.DoorTold.{DoorTold}
use Rattle.pb_door.specs.MemoryDoor.{DoorState, told_by}
use Rattle.pb_door.specs.MemoryPort.{told_by as port_told_by}
use Rattle.pb_door.specs.PortTold.{PortTold}
use Rattle.order_desk.specs.Tables.{State}
use Rattle.session.specs.declared.end.SessionEnd.{SessionEnd}
use Rattle.serve_run.specs.declared.work_end.WorkEnd.{WorkEnd}
use Rattle.serve_run.specs.ServeRun.{IsServeRun}
use Rattle.serve_run.specs.declared.end.ServeEnd.{ServeEnd}
use Rattle.serve_run.specs.declared.end.ServeEnd.TheVariants.{Worked}

pub two_back : (how : ServeEnd) (end : WorkEnd) (old new : State) (share links : ℕ) (faults : List (List SessionEnd)) (before : DoorTold) (after : DoorState)
    → how ≡ Worked end → IsServeRun how old new share links 2 faults before (told_by after) → length after.back ≡ 2
two_back how end old new share links faults before after is run =
    let worked : IsServeRun (Worked end) old new share links 2 faults before (told_by after) =
    subst (λ (h : ServeEnd). IsServeRun h old new share links 2 faults before (told_by after)) is run in
    omega (arith, ap length worked.numbers, length-map (map port_told_by after.back) (λ (p : PortTold). p.number), length-map after.back port_told_by)
