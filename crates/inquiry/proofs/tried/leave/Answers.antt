use Rattle.std.proofs.Common.{rules, ◌+◌, ◌≡◌, ℕ, true, ap, arith}
use Rattle.inquiry.proofs.TriedLaws.{tried_left}
use Rattle.inquiry.proofs.tried.leave.Goals as goal

pub returns-clause-further : goal.returns-clause-further
returns-clause-further g c = λ took.
    let has_room : c.has_room.result ≡ true = search rules in
    tried_left (g.S.Inquiry.form c.args.source.now) c.args.questions.now c.args.place c.args.question c.requires.there c.args.tried.now
    (record { found = c.push-2.new.self; rest = c.push.new.self; taken = c.args.tried.now.taken + c.size-own.result }) c.requires.tried
    (omega (arith, c.has_room.ensures.few has_room, c.size-own.ensures)) c.in_ok-push-2.ensures.items c.in_ok-push.ensures.items
    (ap (λ (n : ℕ). c.args.tried.now.taken + n) c.size-own.ensures)
