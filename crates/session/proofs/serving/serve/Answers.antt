use Rattle.session.specs.Session.{told}
use Rattle.session.proofs.Ending.{gives_up}
use Rattle.session.proofs.serving.serve.Goals as goal

pub returns-clause-serves : goal.returns-clause-serves
returns-clause-serves g c =
    c.loop.invariant.0 c.give_up.result (told (g.L.Ends.input c.give_up.new.link) (g.L.Ends.output c.give_up.new.link)) (g.T.Turns.hand c.loop.turns)
    (gives_up c.give_up.result c.loop.wire (g.L.Ends.input c.loop.link) (g.L.Ends.input c.give_up.new.link) (g.L.Ends.output c.loop.link)
    (g.L.Ends.output c.give_up.new.link) c.give_up.ensures.other_end c.give_up.ensures.ends (g.T.Turns.hand c.loop.turns))
