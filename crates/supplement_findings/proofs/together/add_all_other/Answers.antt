use Rattle.supplement_findings.proofs.CodingLaws.{other_room_left, other_made, lits_made}
use Rattle.supplement_findings.proofs.together.add_all_other.Goals as goal

pub add_other-requires-clause-room : goal.add_other-requires-clause-room
add_other-requires-clause-room c =
    other_room_left c.args.book.now c.loop-question.question-index _ c.args.questions.now c.args.encoder.now c.loop-question.encoder c.loop-question-test.true
    c.loop-question.invariant.made c.requires.room

pub loop-question-preserved : goal.loop-question-preserved
loop-question-preserved c = record {
  made = other_made c.args.book.now c.loop-question.question-index c.args.questions.now c.args.encoder.now c.loop-question.encoder c.add_other.new.encoder c.loop-question-test.true
      c.loop-question.invariant.made c.in_ok-lits.ensures.made;
  lits = lits_made c.args.book.now c.args.codes.now c.args.known.now c.loop-question.question-index c.loop-question.encoder.next c.add_other.new.encoder.next c.args.encoder.now.next c.args.questions.now
      c.loop-question.all.items c.push.new.self.items c.in_ok-lits.lits c.loop-question-test.true c.in_ok-lits.ensures.made.next c.in_ok-lits.ensures.lits c.in_ok-push.ensures.items
      c.loop-question.invariant.lits;
}
