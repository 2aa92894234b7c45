use Rattle.std.proofs.Common.{[], refl}
use Rattle.answering.proofs.LaterHands.{hand_same}
use Rattle.session.specs.Session.{told}
use Rattle.session.proofs.Dealings.{has_dealt}
use Rattle.session.proofs.Ending.{gives_up}
use Rattle.session.proofs.Going.{from_start}
use Rattle.session.proofs.serving.session.Goals as goal

pub returns-in-Err-clause-dealt : goal.returns-in-Err-clause-dealt
returns-in-Err-clause-dealt g c =
    let input = g.L.Ends.input c.args.link.now in
    let output = g.L.Ends.output c.args.link.now in
    let after = told (g.L.Ends.input c.give_up.new.link) (g.L.Ends.output c.give_up.new.link) in
    let hand = g.T.Turns.hand c.args.turns.now in
    has_dealt c.give_up.result hand (told input output) after hand c.valid_law.ensures
    (from_start [] input output hand refl c.give_up.result after hand
    (gives_up c.give_up.result [] input (g.L.Ends.input c.give_up.new.link) output (g.L.Ends.output c.give_up.new.link)
    c.give_up.ensures.other_end c.give_up.ensures.ends hand))

pub returns-in-Err-clause-steps : goal.returns-in-Err-clause-steps
returns-in-Err-clause-steps g c = hand_same (g.T.Turns.hand c.args.turns.now)
