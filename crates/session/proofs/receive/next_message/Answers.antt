use Rattle.std.proofs.Common.{ap}
use Rattle.std.proofs.lemmas.Result.{err_from_is_err_and}
use Rattle.pb_outside.specs.Source.{SourceTold}
use Rattle.session.specs.Session.{told}
use Rattle.session.specs.Steps.{seen}
use Rattle.session.proofs.Ending.{at_interim_fault, awaits_body, body_ended, body_received}
use Rattle.session.proofs.receive.next_message.Goals as goal

pub returns-in_err-write_interim-clause-ended : goal.returns-in_err-write_interim-clause-ended
returns-in_err-write_interim-clause-ended g c =
    let p = err_from_is_err_and c.from_residual-in_err-write_interim.result c.from_residual-in_err-write_interim.ensures.1 in
    rw (p.1, p.2)
    (at_interim_fault c.in_ok-head.head _ (seen c.args.wire.now (g.L.Ends.input c.args.link.now) (g.L.Ends.output c.args.link.now))
    (seen c.next_head.new.wire (g.L.Ends.input c.next_head.new.link) (g.L.Ends.output c.next_head.new.link))
    (g.L.Ends.input c.write_interim.new.link) (g.L.Ends.output c.write_interim.new.link) c.in_ok-head.ensures.received
    (ap (λ (i : SourceTold). i.faults) c.write_interim.ensures.other_end) c.in_err-write_interim.ensures.cut)

pub returns-clause-received : goal.returns-clause-received
returns-clause-received g c =
    let start = seen c.args.wire.now (g.L.Ends.input c.args.link.now) (g.L.Ends.output c.args.link.now) in
    body_received c.read_body.result c.in_ok-head.head start
    (seen c.next_head.new.wire (g.L.Ends.input c.write_interim.new.link) (g.L.Ends.output c.write_interim.new.link))
    (seen c.read_body.new.wire (g.L.Ends.input c.read_body.new.link) (g.L.Ends.output c.read_body.new.link)) c.read_body.ensures.received
    (awaits_body c.in_ok-head.head c.next_head.new.wire start
    (g.L.Ends.input c.next_head.new.link) (g.L.Ends.input c.write_interim.new.link) (g.L.Ends.output c.next_head.new.link) (g.L.Ends.output c.write_interim.new.link)
    c.in_ok-head.ensures.received c.write_interim.ensures.other_end c.in_ok-write_interim.ensures.whole)

pub returns-clause-ended : goal.returns-clause-ended
returns-clause-ended g c =
    let start = seen c.args.wire.now (g.L.Ends.input c.args.link.now) (g.L.Ends.output c.args.link.now) in
    body_ended c.read_body.result c.in_ok-head.head start
    (seen c.next_head.new.wire (g.L.Ends.input c.write_interim.new.link) (g.L.Ends.output c.write_interim.new.link))
    (told (g.L.Ends.input c.read_body.new.link) (g.L.Ends.output c.read_body.new.link)) c.read_body.ensures.ended
    (awaits_body c.in_ok-head.head c.next_head.new.wire start
    (g.L.Ends.input c.next_head.new.link) (g.L.Ends.input c.write_interim.new.link) (g.L.Ends.output c.next_head.new.link) (g.L.Ends.output c.write_interim.new.link)
    c.in_ok-head.ensures.received c.write_interim.ensures.other_end c.in_ok-write_interim.ensures.whole)
