use Rattle.std.proofs.Common.{◌∙◌, true, refl, sym, ap, subst, arith}
use Rattle.std.specs.Prelude.{Err}
use Rattle.pb_outside.specs.declared.error.OutError.{OutError}
use Rattle.pb_door.specs.LinkTold.{link_told}
use Rattle.pb_door.specs.PortTold.{PortTold, ends}
use Rattle.serve_run.specs.Work.{Works, WorksOn}
use Rattle.serve_run.specs.declared.work_end.WorkEnd.TheVariants.{Over, Fault, Memory}
use Rattle.serve_run.proofs.Working.{goes_on, stops}
use Rattle.serve_run.proofs.links.serve_next.Goals as goal

pub returns-in-Ok-Some-clause-goes_on : goal.returns-in-Ok-Some-clause-goes_on
returns-in-Ok-Some-clause-goes_on g c =
    let p = g.Q.DoorPort.told c.args.port.now in
    let h = g.T.Turns.hand c.args.turns.now in
    let mid = g.T.Turns.hand c.serve_link-end.new.turns in
    let log = c.args.faults.now.items in
    let log' = c.keep.new.faults.items in
    let link = link_told (g.Q.L.Ends.input c.in-Ok-Some.link) (g.Q.L.Ends.output c.in-Ok-Some.link) in
    let link' = link_told (g.Q.L.Ends.input c.serve_link-end.new.link) (g.Q.L.Ends.output c.serve_link-end.new.link) in
    let found = rw c.in-Ok-Some.field-0-is at c.in-Ok-Some.ensures.found in
    let left = rw c.in-Ok-Some.field-0-is at c.in-Ok-Some.ensures.left in
    let is = c.done.ensures.ended ∙ ap (λ (q : PortTold). ends link' q) found in
    subst (λ (q : PortTold). WorksOn h p log mid q log') (sym is) (goes_on c.serve_link-end.result h mid link link' p log log' left c.serve_link-end.ensures.dealt c.keep.ensures)

pub returns-in-Ok-None-clause-ended : goal.returns-in-Ok-None-clause-ended
returns-in-Ok-None-clause-ended g c =
    let p = g.Q.DoorPort.told c.args.port.now in
    let h = g.T.Turns.hand c.args.turns.now in
    let log = c.args.faults.now.items in
    let found = rw c.in-Ok-None.field-0-is at c.in-Ok-None.ensures.found in
    subst (λ (last : PortTold). Works Over h p last log log h) (sym found) (stops Over h p true p.faults log c.requires (omega arith) refl)

pub returns-in-Err-Failed-clause-ended : goal.returns-in-Err-Failed-clause-ended
returns-in-Err-Failed-clause-ended g c =
    let p = g.Q.DoorPort.told c.args.port.now in
    let q = g.Q.DoorPort.told c.next.new.self in
    let h = g.T.Turns.hand c.args.turns.now in
    let log = c.args.faults.now.items in
    let fails = c.in-Err-Failed.ensures.cause (ap (λ (e : OutError). Err e) c.in-Err-Failed.field-0-is) in
    subst (λ (last : PortTold). Works Fault h p last log log h) (sym c.in-Err-Failed.ensures.err) (stops Fault h p p.over q.faults log c.requires c.in-Err-Failed.ensures.later.never_falls fails.rose)

pub returns-in-Err-Memory-clause-ended : goal.returns-in-Err-Memory-clause-ended
returns-in-Err-Memory-clause-ended g c =
    let p = g.Q.DoorPort.told c.args.port.now in
    let q = g.Q.DoorPort.told c.next.new.self in
    let h = g.T.Turns.hand c.args.turns.now in
    let log = c.args.faults.now.items in
    subst (λ (last : PortTold). Works Memory h p last log log h) (sym c.in-Err-Memory.ensures.err) (stops Memory h p p.over q.faults log c.requires c.in-Err-Memory.ensures.later.never_falls tt)
