use Rattle.std.proofs.Common.{List, length, sym, subst, ◌∙◌, All, map}
use Rattle.std.proofs.lemmas.List.Elements.{All-from_recursion}
use Rattle.lost_cars.specs.Asks.{ArePut}
use Rattle.lost_cars.specs.Losses.{QuestionFits, questions}
use Rattle.lost_cars.specs.declared.asks.Ask.{Ask}
use Rattle.lost_cars.specs.declared.question.Question.{Question}
use Rattle.lost_cars.proofs.AskLaws.{questions_fit}
use Rattle.lost_cars.proofs.CommonCarLaws.{rule_common, rule_fits}
use Rattle.lost_cars.proofs.NotedLaws.{put_fit}
use Rattle.lost_cars.proofs.common_cars.common_rule.Goals as goal

pub asks-requires : goal.asks-requires
asks-requires c =
    let own = c.args.own.now in
    let other = c.args.other.now in
    subst (All (QuestionFits own other)) (sym (c.deref.ensures.value ∙ c.in_ok-questions.ensures)) (All-from_recursion (QuestionFits own other) (questions own other) (questions_fit own other))

pub returns-clause-common : goal.returns-clause-common
returns-clause-common c =
    let own = c.args.own.now in
    let other = c.args.other.now in
    let asks = c.in_ok-asks.asks.items in
    let put = subst (λ (qs : List Question). ArePut own other c.args.day qs asks) (c.deref.ensures.value ∙ c.in_ok-questions.ensures) c.in_ok-asks.ensures in
    rule_common own other c.args.day asks c.in_ok-rule.rule c.small.result put c.in_ok-rule.ensures c.small.ensures.same

pub returns-clause-fits : goal.returns-clause-fits
returns-clause-fits c =
    let own = c.args.own.now in
    let other = c.args.other.now in
    let asks = c.in_ok-asks.asks.items in
    let put = subst (λ (qs : List Question). ArePut own other c.args.day qs asks) (c.deref.ensures.value ∙ c.in_ok-questions.ensures) c.in_ok-asks.ensures in
    let small = (put_fit own other c.args.day (questions own other) asks (questions_fit own other) put).1 in
    rule_fits (length own.codes) c.in_ok-rule.rule (map (λ (a : Ask). a.rule) asks) c.small.result c.in_ok-rule.ensures small c.small.ensures.same c.small.ensures.few
