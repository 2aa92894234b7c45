use Rattle.std.proofs.Common.{length, refl, subst}
use Rattle.std.proofs.lemmas.Option.{slice_get_read}
use Rattle.std.specs.Option.{option_to_list}
use Rattle.inquiry.specs.Told.{IsTold}
use Rattle.inquiry.proofs.PartLaws.{part_noted}
use Rattle.inquiry.proofs.TriedLaws.{found_within, may_find, left_there, left_next, rest_posed}
use Rattle.inquiry.proofs.answer.answer_tried.Goals as goal

pub answer_at-requires-clause-rest_posed : goal.answer_at-requires-clause-rest_posed
answer_at-requires-clause-rest_posed g c =
    rest_posed (g.S.Inquiry.form c.args.source.now) c.args.questions.now c.args.tried.now c.requires.tried (g.S.Inquiry.IsPosed c.args.source.now) c.requires.posed

pub answer_at-requires-clause-there : goal.answer_at-requires-clause-there
answer_at-requires-clause-there g c =
    found_within (g.S.Inquiry.form c.args.source.now) c.args.questions.now c.args.tried.now c.requires.tried c.loop-place.place c.loop-place-test.true

pub answer_at-requires-clause-found : goal.answer_at-requires-clause-found
answer_at-requires-clause-found g c =
    let there = slice_get_read c.args.questions.now (length c.args.questions.now) c.loop-place.place c.index-questions-place.result refl c.loop-place-test.true c.index-questions-place.is in
    may_find (g.S.Inquiry.form c.args.source.now) c.args.questions.now c.args.tried.now c.requires.tried c.loop-place.place c.index-questions-place.result there

pub answer_at-requires-clause-left : goal.answer_at-requires-clause-left
answer_at-requires-clause-left g c =
    let there = slice_get_read c.args.questions.now (length c.args.questions.now) c.loop-place.place c.index-questions-place.result refl c.loop-place-test.true c.index-questions-place.is in
    left_there (g.S.Inquiry.form c.args.source.now) c.args.questions.now c.args.tried.now c.requires.tried c.loop-place.place c.loop-place.searching.asked c.index-questions-place.result there
    c.loop-place.invariant.left

pub loop-place-preserved : goal.loop-place-preserved
loop-place-preserved g c =
    let f = g.S.Inquiry.form c.args.source.now in
    let there = slice_get_read c.args.questions.now (length c.args.questions.now) c.loop-place.place c.index-questions-place.result refl c.loop-place-test.true c.index-questions-place.is in
    record {
      parts =
          part_noted (IsTold f c.args.budget) c.args.questions.now c.loop-place.place c.index-questions-place.result c.loop-place.told.items c.put.new.told.items (option_to_list c.in_ok-own.own)
          c.loop-place-test.true c.loop-place.invariant.parts
          (subst (λ q. IsTold f c.args.budget q (option_to_list c.in_ok-own.own)) c.index-questions-place.is c.in_ok-own.ensures.told) c.in_ok-put.ensures;
      left =
          left_next f c.args.questions.now c.args.tried.now c.requires.tried c.loop-place.place c.loop-place.searching.asked c.answer_at.new.searching.asked c.index-questions-place.result there
          c.loop-place.invariant.left c.in_ok-own.ensures.asked;
      asking = c.answer_at.ensures.asking;
      kept = c.answer_at.ensures.kept;
    }
