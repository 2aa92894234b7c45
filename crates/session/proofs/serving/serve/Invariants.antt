use Rattle.std.proofs.Common.{◌≡◌}
use Rattle.session.specs.Session.{told}
use Rattle.session.specs.Steps.{GoesOn, seen}
use Rattle.session.proofs.serving.serve.Given as goal

abbrev pub invariant-loop : goal.invariant-loop
invariant-loop g l =
    GoesOn (g.T.Turns.hand l.fn.turns) (told (g.L.Ends.input l.fn.link) (g.L.Ends.output l.fn.link))
    (g.T.Turns.hand l.turns) (seen l.wire (g.L.Ends.input l.link) (g.L.Ends.output l.link))
    × (g.L.Ends.names l.link ≡ g.L.Ends.names l.fn.link)
