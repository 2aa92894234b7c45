use Rattle.std.proofs.Common.{◌≡◌, ℕ, ◌+◌, ◌-◌, ◌<◌, ◌≤◌, List, length, take, drop, sym, ap, subst, ◌∙◌, arith}
use Rattle.std.specs.List.{AllZip, range_with_len}
use Rattle.std.proofs.lemmas.List.{drop-drop, take_all}
use Rattle.pb_base.specs.InParts.{InParts}
use Rattle.pb_base.specs.Rule.{Rule}
use Rattle.inquiry.specs.Told.{IsTold}
use Rattle.rules_met.specs.Met.{IsAnswer}
use Rattle.rules_met.specs.Source.{form, answer_for, count, rule_at}
use Rattle.rules_met.specs.declared.answer.RuleAnswer.{RuleAnswer}
use Rattle.rules_met.proofs.AnswerLaws.{step, answered_next, count_few}
use Rattle.rules_met.proofs.ask.answers_of.Goals as goal

pub loop-place-preserved : goal.loop-place-preserved
loop-place-preserved c =
    let b = c.args.source.now.book.now in
    let day = c.args.source.now.day in
    let budget = c.args.budget in
    let fs = c.args.source.now.rules.now in
    let told = c.args.told.now in
    let k = c.loop-place.place in
    let next = c.loop-place.next in
    let inv = c.loop-place.invariant in
    let answer = c.in_ok-answer.answer in
    let low : k < length fs = omega (arith, c.loop-place-test.true) in
    let is : answer ≡ answer_for (drop next told) k = c.in_ok-answer.ensures in
    let goes = step b day budget fs k (drop next told) low inv.left in
    let right : IsAnswer b day budget (rule_at fs k) answer = subst (λ (a : RuleAnswer). IsAnswer b day budget (rule_at fs k) a) (sym is) goes.0 in
    let rest : InParts (IsTold (form b day fs) budget) (range_with_len (k + 1) (length fs - (k + 1))) (drop (count answer) (drop next told)) =
    subst (λ (a : RuleAnswer). InParts (IsTold (form b day fs) budget) (range_with_len (k + 1) (length fs - (k + 1))) (drop (count a) (drop next told))) (sym is) goes.1 in
    let further : drop (count answer) (drop next told) ≡ drop (next + c.count-next.result) told =
    drop-drop (count answer) next told ∙ ap (λ (n : ℕ). drop (next + n) told) (sym c.count-next.ensures) in
    record {
      so_far =
          subst (AllZip (IsAnswer b day budget) (take (k + 1) fs)) (sym c.in_ok-push.ensures.items)
          (answered_next b day budget fs k c.loop-place.answers.items answer low inv.so_far right);
      left = subst (InParts (IsTold (form b day fs) budget) (range_with_len (k + 1) (length fs - (k + 1)))) further rest;
      few = omega (arith, inv.few, c.count-next.ensures, count_few answer);
    }

pub returns : goal.returns
returns c =
    let b = c.args.source.now.book.now in
    let day = c.args.source.now.day in
    let fs = c.args.source.now.rules.now in
    let k = c.loop-place.place in
    let past : length fs ≤ k = omega (arith, c.loop-place-test.false) in
    subst (λ (gs : List Rule). AllZip (IsAnswer b day c.args.budget) gs c.loop-place.answers.items) (take_all k fs past) c.loop-place.invariant.so_far
