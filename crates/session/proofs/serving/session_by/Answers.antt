use Rattle.session.specs.Session.{told}
use Rattle.session.proofs.Dealings.{has_dealt}
use Rattle.session.proofs.Hands.{hand_later}
use Rattle.session.proofs.serving.session_by.Goals as goal

pub returns-clause-dealt : goal.returns-clause-dealt
returns-clause-dealt g c =
    has_dealt c.serve.result (g.T.Turns.hand c.args.turns.now) (told (g.L.Ends.input c.args.link.now) (g.L.Ends.output c.args.link.now))
    (told (g.L.Ends.input c.serve.new.link) (g.L.Ends.output c.serve.new.link)) (g.T.Turns.hand c.serve.new.turns) c.valid_law.ensures
    c.serve.ensures.serves

pub returns-clause-steps : goal.returns-clause-steps
returns-clause-steps g c =
    hand_later c.serve.result (g.T.Turns.hand c.args.turns.now) (told (g.L.Ends.input c.args.link.now) (g.L.Ends.output c.args.link.now))
    (told (g.L.Ends.input c.serve.new.link) (g.L.Ends.output c.serve.new.link)) (g.T.Turns.hand c.serve.new.turns) c.serve.ensures.serves
