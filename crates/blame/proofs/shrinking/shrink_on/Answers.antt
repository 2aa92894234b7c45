use Rattle.std.proofs.Common.{arith}
use Rattle.blame.proofs.LeftLaws.{blame_told, among_told}
use Rattle.blame.proofs.MarkLaws.{settled_more}
use Rattle.blame.proofs.shrinking.shrink_on.Goals as goal

pub loop-at-2-preserved : goal.loop-at-2-preserved
loop-at-2-preserved c = record {
  guarding = c.try_without-in-loop-at-2.ensures.guarding;
  marked = c.in_ok-try_without-2.ensures.marked;
  settled =
      settled_more c.loop-at-2.at c.loop-at-2.marks c.try_without-in-loop-at-2.new.marks c.loop-at-2.invariant.settled c.in_ok-try_without-2.ensures.further
      c.in_ok-try_without-2.ensures.settled;
}

pub returns-clause-blame : goal.returns-clause-blame
returns-clause-blame c =
    blame_told c.args.case.now.entries.now c.loop-at-2.marks c.args.case.now.book.now c.args.case.now.day c.args.case.now.rule.now c.args.budget c.blamed_by_marks.result c.loop-at-2.invariant.marked
    (λ k inside. c.loop-at-2.invariant.settled k (omega (arith, inside))) c.blamed_by_marks.ensures.entries c.blamed_by_marks.ensures.needed

pub returns-clause-among : goal.returns-clause-among
returns-clause-among c =
    among_told c.args.case.now.entries.now c.loop-at-2.marks c.blamed_by_marks.result c.loop-at-2.invariant.marked.kept_counted c.blamed_by_marks.ensures.entries
