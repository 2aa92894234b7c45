use Rattle.std.proofs.Common.{◌≡◌, ◌∙◌, ℕ, List, [], ◌∷◌, ◌++◌, sym, ap, subst}
use Rattle.std.specs.Prelude.{map}
use Rattle.pb_door.specs.PortTold.{PortTold}
use Rattle.session.specs.declared.end.SessionEnd.{SessionEnd}
use Rattle.serve_run.specs.declared.work_end.WorkEnd.{WorkEnd}
use Rattle.serve_run.specs.Workers.{IsJoined, worse}
use Rattle.serve_run.proofs.Fresh.{map_push}
use Rattle.serve_run.proofs.Runs.{joined_more}
use Rattle.serve_run.proofs.joining.with_worker.Goals as goal

pub returns-clause-joined : goal.returns-clause-joined
returns-clause-joined g c = λ limit rest before.
    let book = c.args.book.now in
    let share = c.args.share in
    let told = g.Q.DoorPort.told in
    let worker = c.args.worker in
    let parts = c.into_parts-port.result in
    let ports = map told c.args.joined.ports.items in
    let faults = map (λ f. f.items) c.args.joined.faults.items in
    let all_ports = ports ++ worker.port ∷ [] in
    let all_faults = faults ++ worker.faults ∷ [] in
    let pass = c.join.result in
    let end = c.worse.result in
    let ports_are = map_push c.args.joined.ports.items c.put.new.items.items told parts.port worker.port c.put.ensures.items c.into_parts-port.ensures.port in
    let faults_are = map_push c.args.joined.faults.items c.put-2.new.items.items (λ f. f.items) parts.faults worker.faults c.put-2.ensures.items c.into_parts-port.ensures.faults in
    let end_is : end ≡ worse c.args.joined.end worker.end = c.worse.ensures ∙ ap (λ (e : WorkEnd). worse c.args.joined.end e) c.into_parts-port.ensures.end in
    subst (λ (ps : List PortTold). IsJoined book share limit pass ps (map (λ f. f.items) c.put-2.new.items.items) end rest) (sym ports_are)
    (subst (λ (fs : List (List SessionEnd)). IsJoined book share limit pass all_ports fs end rest) (sym faults_are)
    (subst (λ (e : WorkEnd). IsJoined book share limit pass all_ports all_faults e rest) (sym end_is)
    (joined_more book share limit rest c.args.joined.pass parts.pass pass ports faults c.args.joined.end worker c.requires.done c.into_parts-port.ensures.pass c.join.ensures.book
    c.join.ensures.seen c.join.ensures.own c.join.ensures.left before)))
