use Rattle.std.proofs.Common.{subst, sym}
use Rattle.pb_outside.specs.Source.{SourceTold}
use Rattle.http_wire.specs.Stream.{ReadFails}
use Rattle.http_wire.specs.declared.head.HeadStep.{HeadStep}
use Rattle.session.specs.Session.{told}
use Rattle.session.specs.Steps.{EndsUnanswered, seen}
use Rattle.session.proofs.Ending.{at_end, at_refusal, at_unread}
use Rattle.session.proofs.Faults.{refusal}
use Rattle.session.proofs.receive.next_head.Goals as goal

pub returns-in-Ok-End-clause-ended : goal.returns-in-Ok-End-clause-ended
returns-in-Ok-End-clause-ended g c =
    at_end c.args.wire.now c.next_head.new.self (g.L.Ends.input c.args.link.now) (g.L.Ends.input c.next_head.new.source)
    (g.L.Ends.output c.args.link.now) (g.L.Ends.output c.next_head.new.source) (rw c.in-Ok-End.field-0-is at c.in-Ok-End.ensures.next)
    c.in-Ok-End.ensures.stays c.next_head.ensures.later c.next_head.ensures.other_end

pub returns-in-Ok-Bad-clause-ended : goal.returns-in-Ok-Bad-clause-ended
returns-in-Ok-Bad-clause-ended g c =
    let input = g.L.Ends.input c.args.link.now in
    let output = g.L.Ends.output c.args.link.now in
    let written = g.L.Ends.output c.refuse.new.link in
    subst (λ (i : SourceTold). EndsUnanswered c.refuse.result (seen c.args.wire.now input output) (told i written)) (sym c.refuse.ensures.other_end)
    (at_refusal c.in-Ok-Bad.refusal c.refuse.result c.args.wire.now c.next_head.new.self input (g.L.Ends.input c.next_head.new.source)
    output (g.L.Ends.output c.next_head.new.source) written (rw c.in-Ok-Bad.field-0-is at c.in-Ok-Bad.ensures.next)
    c.in-Ok-Bad.ensures.stays c.next_head.ensures.later c.next_head.ensures.other_end c.refuse.ensures.ends)

pub returns-in-Err-clause-ended : goal.returns-in-Err-clause-ended
returns-in-Err-clause-ended g c =
    let input = g.L.Ends.input c.args.link.now in
    let output = g.L.Ends.output c.args.link.now in
    let read = g.L.Ends.input c.next_head.new.source in
    let written = g.L.Ends.output c.end_unread.new.link in
    subst (λ (i : SourceTold). EndsUnanswered c.end_unread.result (seen c.args.wire.now input output) (told i written)) (sym c.end_unread.ensures.other_end)
    (at_unread c.in-Err.fail c.end_unread.result c.args.wire.now input read output (g.L.Ends.output c.next_head.new.source) written
    (refusal HeadStep c.in-Err.fail (ReadFails input.faults read.faults) c.in-Err.ensures.cause) c.next_head.ensures.later c.next_head.ensures.other_end
    c.end_unread.ensures.ends)
