use Rattle.std.proofs.Common.{subst, sym}
use Rattle.pb_outside.specs.Source.{SourceTold}
use Rattle.http_wire.specs.Stream.{ReadFails}
use Rattle.http_wire.specs.declared.message.BodyStep.{BodyStep}
use Rattle.session.specs.Session.{told}
use Rattle.session.specs.Steps.{EndsBehind, seen}
use Rattle.session.proofs.Ending.{at_cut, at_unread_body, receives}
use Rattle.session.proofs.Faults.{refusal}
use Rattle.session.proofs.receive.read_body.Goals as goal

pub returns-in-Ok-Message-clause-received : goal.returns-in-Ok-Message-clause-received
returns-in-Ok-Message-clause-received g c =
    receives c.args.head c.in-Ok-Message.message c.args.wire.now c.body.new.self (g.L.Ends.input c.args.link.now) (g.L.Ends.input c.body.new.source)
    (g.L.Ends.output c.args.link.now) (g.L.Ends.output c.body.new.source) (rw c.in-Ok-Message.field-0-is at c.in-Ok-Message.ensures.next)
    c.in-Ok-Message.ensures.stays c.body.ensures.later (rw c.in-Ok-Message.field-0-is at c.in-Ok-Message.ensures.whole) c.body.ensures.other_end

pub returns-in-Ok-Cut-clause-ended : goal.returns-in-Ok-Cut-clause-ended
returns-in-Ok-Cut-clause-ended g c =
    at_cut c.args.head c.args.wire.now c.body.new.self (g.L.Ends.input c.args.link.now) (g.L.Ends.input c.body.new.source)
    (g.L.Ends.output c.args.link.now) (g.L.Ends.output c.body.new.source) (rw c.in-Ok-Cut.field-0-is at c.in-Ok-Cut.ensures.next)
    c.in-Ok-Cut.ensures.stays c.body.ensures.later c.body.ensures.other_end

pub returns-in-Err-clause-ended : goal.returns-in-Err-clause-ended
returns-in-Err-clause-ended g c =
    let input = g.L.Ends.input c.args.link.now in
    let output = g.L.Ends.output c.args.link.now in
    let read = g.L.Ends.input c.body.new.source in
    let written = g.L.Ends.output c.end_unread.new.link in
    subst (λ (i : SourceTold). EndsBehind c.args.head c.end_unread.result (seen c.args.wire.now input output) (told i written)) (sym c.end_unread.ensures.other_end)
    (at_unread_body c.args.head c.in-Err.fail c.end_unread.result c.args.wire.now input read output (g.L.Ends.output c.body.new.source) written
    (refusal BodyStep c.in-Err.fail (ReadFails input.faults read.faults) c.in-Err.ensures.cause) c.body.ensures.later c.body.ensures.other_end c.end_unread.ensures.ends)
