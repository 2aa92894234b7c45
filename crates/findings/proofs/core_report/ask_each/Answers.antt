use Rattle.std.proofs.Common.{List, ◌<◌, ◌≤◌, get_or, length, sym, subst, ◌∙◌, arith}
use Rattle.std.proofs.lemmas.List.{get_or_default, take_all}
use Rattle.clausify.specs.declared.question.Question.{Question}
use Rattle.clausify.specs.declared.question.Question.TheVariants.{Void}
use Rattle.findings.specs.Answering.{inquiry}
use Rattle.findings.specs.Core.{AreToldOf, OwnOf}
use Rattle.findings.specs.Outcomes.{notes_of}
use Rattle.findings.proofs.CoreTold.{told_next_of, told_same_of}
use Rattle.findings.proofs.core_report.ask_each.Goals as goal

pub loop-question-preserved-then-not-is_asked : goal.loop-question-preserved-then-not-is_asked
loop-question-preserved-then-not-is_asked c =
    let qs = c.args.questions.now in
    let k = c.loop-question.question-index in
    let q : Question = get_or qs k Void in
    let below : k < length qs = omega arith in
    record {
      known = c.loop-question.invariant.known;
      told =
          told_same_of (inquiry c.args.book.now c.args.asking.task.effort) c.args.asking.task.slice qs k q c.loop-question.notes.items
          below (get_or_default qs k Void q below) (sym c.is_asked.ensures ∙ c.if-not-is_asked.true) c.loop-question.invariant.told;
    }

pub loop-question-preserved : goal.loop-question-preserved
loop-question-preserved c =
    let i = inquiry c.args.book.now c.args.asking.task.effort in
    let s = c.args.asking.task.slice in
    let qs = c.args.questions.now in
    let k = c.loop-question.question-index in
    let q : Question = get_or qs k Void in
    let below : k < length qs = omega arith in
    let own : OwnOf i s q (notes_of c.in-Some.outcome) = rw c.in-Some.is at c.in_ok-answered.ensures.told in
    record {
      known = c.in_ok-answered.ensures.known;
      told =
          told_next_of i s qs k q c.loop-question.notes.items c.put.new.notes.items (notes_of c.in-Some.outcome)
          below (get_or_default qs k Void q below) (sym c.is_asked.ensures ∙ c.if-not-is_asked.false) c.loop-question.invariant.told own c.in_ok-put-in-Some.ensures;
    }

pub returns-clause-told : goal.returns-clause-told
returns-clause-told c =
    let done : length c.args.questions.now ≤ c.loop-question.question-index = omega arith in
    subst (λ (qs : List Question). AreToldOf (inquiry c.args.book.now c.args.asking.task.effort) c.args.asking.task.slice qs c.loop-question.notes.items)
    (take_all c.loop-question.question-index c.args.questions.now done) c.loop-question.invariant.told
