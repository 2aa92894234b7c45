use Rattle.std.proofs.Common.{List, All, length, drop, sym, ap, subst, ◌∙◌, arith}
use Rattle.clausify.specs.Questions.{questions}
use Rattle.clausify.specs.declared.question.Asked.{Asked}
use Rattle.derivation.proofs.LimitLaws.{few_asked}
use Rattle.findings.specs.Answering.{IsAsked}
use Rattle.findings.proofs.SliceLaws.{asked_each, slice_facts, void_below}
use Rattle.findings.proofs.slice.check_slice.Goals as goal

pub check_coded-requires-clause-task : goal.check_coded-requires-clause-task
check_coded-requires-clause-task c = record {
  facts =
      slice_facts c.args.book.now c.args.task.slice c.in_ok-laid.laid.coded c.requires.order c.in_ok-laid.ensures.coded (c.in_ok-laid.ensures.sets c.requires.steady)
      (c.in_ok-laid.ensures.decides c.requires.steady c.requires.order);
  some = c.requires.some;
  most = c.requires.budget;
}

pub check_coded-requires-clause-questions : goal.check_coded-requires-clause-questions
check_coded-requires-clause-questions c = c.deref.ensures.value ∙ c.in_ok-laid.ensures.coded.asked

pub check_coded-requires-clause-count : goal.check_coded-requires-clause-count
check_coded-requires-clause-count c =
    let items = c.in_ok-laid.laid.coded.questions.items in
    omega (arith, ap length c.deref.ensures.value, few_asked items (questions c.args.book.now c.args.task.slice.first) c.in_ok-laid.ensures.questions c.requires.few)

pub check_coded-requires-clause-asked : goal.check_coded-requires-clause-asked
check_coded-requires-clause-asked c =
    subst (λ (qs : List Asked). All (IsAsked c.args.book.now c.args.task.slice) (drop 1 qs)) (sym c.deref.ensures.value)
    (asked_each c.args.book.now c.args.task.slice c.in_ok-laid.laid.coded c.in_ok-laid.ensures.coded c.in_ok-laid.ensures.ranges)

pub check_coded-requires-clause-void : goal.check_coded-requires-clause-void
check_coded-requires-clause-void c = void_below c.args.book.now c.in_ok-laid.laid.coded c.in_ok-laid.ensures.ranges
