use Rattle.std.proofs.Common.{ℕ, ◌*◌, ◌/◌, ◌≤◌, length, subst, sym}
use Rattle.std.specs.Prelude.{map}
use Rattle.serve_run.specs.Workers.{IsPortsRun}
use Rattle.serve_run.proofs.Doors.{are_lent, door_run, share_fits}
use Rattle.serve_run.proofs.Fresh.{new_are_unused}
use Rattle.serve_run.proofs.serving.serve.Goals as goal

pub run_ports-how-requires-clause-share : goal.run_ports-how-requires-clause-share
run_ports-how-requires-clause-share g c κs within =
    subst (λ (n : ℕ). n * length c.in-Ok.ports.items ≤ c.args.steps) (sym c.steps_of_each-share.ensures)
    (share_fits g.D.Port.DoorPort.told c.in-Ok.ports.items c.args.steps c.args.links c.args.workers c.requires.workers c.in-Ok.ensures.ports)

pub run_ports-how-requires-clause-unused : goal.run_ports-how-requires-clause-unused
run_ports-how-requires-clause-unused g c κs within = new_are_unused g.D.Port.DoorPort.told c.args.links c.args.workers c.in-Ok.ports.items c.in-Ok.ensures.ports

pub back-requires : goal.back-requires
back-requires g c =
    let told = g.D.Port.DoorPort.told in
    are_lent c.args.desk c.run_ports-how.result.desk c.steps_of_each-share.result c.args.links c.args.workers (map told c.in-Ok.ports.items) (map told c.run_ports-how.result.ports.items)
    (map (λ f. f.items) c.run_ports-how.result.faults.items) c.in-Ok.ensures.ports c.run_ports-how.result.how (g.D.Door.told c.args.door.now) (g.D.Door.told c.listen.new.self)
    c.in-Ok.ensures.lent c.run_ports-how.ensures.runs

pub returns-in-Ok-clause-runs : goal.returns-in-Ok-clause-runs
returns-in-Ok-clause-runs g c =
    let told = g.D.Port.DoorPort.told in
    let how = c.run_ports-how.result.how in
    let ports = map told c.in-Ok.ports.items in
    let ports' = map told c.run_ports-how.result.ports.items in
    let faults = map (λ f. f.items) c.run_ports-how.result.faults.items in
    let desk = c.run_ports-how.result.desk in
    door_run c.args.desk desk (c.args.steps / c.args.workers) c.args.links c.args.workers ports ports' faults c.in-Ok.ensures.ports how (g.D.Door.told c.args.door.now)
    (g.D.Door.told c.listen.new.self) (g.D.Door.told c.back.new.self) c.in-Ok.ensures.lent c.back.ensures.back
    (subst (λ (share : ℕ). IsPortsRun how c.args.desk desk share ports ports' faults) c.steps_of_each-share.ensures c.run_ports-how.ensures.runs)
