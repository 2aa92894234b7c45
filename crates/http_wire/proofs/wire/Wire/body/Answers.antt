use Rattle.std.proofs.lemmas.Bool.{MatchBool-at_true, MatchBool-at_false}
use Rattle.http_wire.proofs.Bodies.{body_whole, body_cut}
use Rattle.http_wire.proofs.wire.Wire.body.Goals as goal

pub returns-clause-next : goal.returns-clause-next
returns-clause-next g c =
    body_whole c.args.head c.args.self.now c.take_front.new.self c.in_ok-body.body.items c.read_until.new.bytes.items c.of.result
    (g.S.Ends.input c.args.source.now).left (g.S.Ends.input c.read_until.new.source).left c.in_ok-body.ensures.taken c.in_ok-body.ensures.rest c.of.ensures
    c.in_ok-read_until.ensures.stream (MatchBool-at_true _ _ c.if-not-branch.false c.in_ok-read_until.ensures.whole)

pub returns-then-not-branch-clause-next : goal.returns-then-not-branch-clause-next
returns-then-not-branch-clause-next g c =
    body_cut c.args.head c.args.self.now c.take_front.new.self c.in_ok-body.body.items c.read_until.new.bytes.items
    (g.S.Ends.input c.args.source.now).left (g.S.Ends.input c.read_until.new.source).left c.in_ok-body.ensures.taken c.in_ok-body.ensures.rest
    c.in_ok-read_until.ensures.stream (MatchBool-at_false _ _ c.if-not-branch.true c.in_ok-read_until.ensures.whole)
    (let short = c.if-not-branch.true in c.in_ok-read_until.ensures.ended (cc))
