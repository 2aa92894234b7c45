use Rattle.std.proofs.Common.{length, refl}
use Rattle.std.proofs.lemmas.Option.{slice_get_read}
use Rattle.inquiry.specs.Told.{ShownBy}
use Rattle.inquiry.proofs.TriedLaws.{tried_found}
use Rattle.inquiry.proofs.tried.try_at.Goals as goal

pub returns-in_ok-push-in-Some-clause-further : goal.returns-in_ok-push-in-Some-clause-further
returns-in_ok-push-in-Some-clause-further g c = λ took.
    let f = g.S.Inquiry.form c.args.source.now in
    let there = slice_get_read c.args.questions.now (length c.args.questions.now) c.args.place c.index-questions-place.result refl c.requires.there c.index-questions-place.is in
    let shown : ShownBy f c.index-questions-place.result c.in-Some.set = rw c.in-Some.is at c.in_ok-found.ensures in
    tried_found f c.args.questions.now c.args.place c.index-questions-place.result there c.args.tried.now
    (record { found = c.push.new.self; rest = c.args.tried.now.rest; taken = c.args.tried.now.taken }) c.in-Some.set c.requires.tried shown c.in_ok-push-in-Some.ensures.items refl refl
