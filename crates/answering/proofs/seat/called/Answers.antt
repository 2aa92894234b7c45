use Rattle.std.proofs.Common.{inr}
use Rattle.answering.specs.Seat.{hand_of, sitting}
use Rattle.answering.proofs.Seats.{called}
use Rattle.answering.proofs.ToldLaws.{tells_taken}
use Rattle.answering.proofs.seat.called.Goals as goal

pub returns-clause-takes : goal.returns-clause-takes
returns-clause-takes g c =
    inr (called c.args.book.now c.args.pass c.call.result.1 c.args.event c.call.result.0 c.requires.seated c.call.ensures.book
    c.call.ensures.history c.call.ensures.machine c.call.ensures.entry c.call.ensures.place c.call.ensures.left).step

pub returns-clause-tells : goal.returns-clause-tells
returns-clause-tells g c =
    let one = called c.args.book.now c.args.pass c.call.result.1 c.args.event c.call.result.0 c.requires.seated c.call.ensures.book
    c.call.ensures.history c.call.ensures.machine c.call.ensures.entry c.call.ensures.place c.call.ensures.left in
    tells_taken (hand_of (sitting c.args.book.now c.args.pass)) c.args.event c.call.result.0 (hand_of (sitting c.args.book.now c.call.result.1))
    (inr one.step)

pub returns-clause-seated : goal.returns-clause-seated
returns-clause-seated g c =
    (called c.args.book.now c.args.pass c.call.result.1 c.args.event c.call.result.0 c.requires.seated c.call.ensures.book
    c.call.ensures.history c.call.ensures.machine c.call.ensures.entry c.call.ensures.place c.call.ensures.left).seated
