use Rattle.std.proofs.Common.{ap}
use Rattle.pb_outside.specs.Source.{SourceTold}
use Rattle.session.specs.Session.{told}
use Rattle.session.specs.Steps.{seen, stream_of, text_of}
use Rattle.session.proofs.Ending.{answered}
use Rattle.session.proofs.Going.{goes_on_ok}
use Rattle.session.proofs.serving.exchange.Goals as goal

pub returns-clause-goes_on : goal.returns-clause-goes_on
returns-clause-goes_on g c =
    let held = c.next_message.new.wire in
    goes_on_ok c.respond.result c.in_ok-message.message (g.T.Turns.hand c.args.turns.now) (g.T.Turns.hand c.answer-made.new.turns)
    (seen c.args.wire.now (g.L.Ends.input c.args.link.now) (g.L.Ends.output c.args.link.now))
    (seen held (g.L.Ends.input c.next_message.new.link) (g.L.Ends.output c.next_message.new.link))
    (seen held (g.L.Ends.input c.respond.new.link) (g.L.Ends.output c.respond.new.link))
    (text_of c.in_ok-message.message.head c.answer-made.result) c.in_ok-message.ensures.received c.answer-made.ensures
    c.respond.ensures.open c.respond.ensures.whole
    (ap (λ (i : SourceTold). let seen_input : SourceTold = record { left = stream_of held i.left; faults = i.faults } in seen_input) c.respond.ensures.other_end)

pub returns-clause-ended : goal.returns-clause-ended
returns-clause-ended g c =
    answered c.respond.result c.in_ok-message.message (g.T.Turns.hand c.args.turns.now) (g.T.Turns.hand c.answer-made.new.turns)
    (seen c.args.wire.now (g.L.Ends.input c.args.link.now) (g.L.Ends.output c.args.link.now))
    (seen c.next_message.new.wire (g.L.Ends.input c.next_message.new.link) (g.L.Ends.output c.next_message.new.link))
    (told (g.L.Ends.input c.respond.new.link) (g.L.Ends.output c.respond.new.link))
    (text_of c.in_ok-message.message.head c.answer-made.result) c.in_ok-message.ensures.received c.answer-made.ensures
    c.respond.ensures.ended (ap (λ (i : SourceTold). i.faults) c.respond.ensures.other_end)
