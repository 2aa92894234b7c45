use Rattle.std.proofs.Common.{◌≡◌, ◌≤◌, arith, List, length, sym, ap, subst, ◌∙◌, All, map}
use Rattle.std.specs.List.{IsDistinct}
use Rattle.std.proofs.lemmas.List.{length-map}
use Rattle.std.proofs.lemmas.List.Elements.{All-from_recursion}
use Rattle.pb_base.specs.Names.{same_name}
use Rattle.pb_base.specs.Rule.{Rule}
use Rattle.rules_met.specs.Met.{RuleIsSmall}
use Rattle.lost_cars.specs.Asks.{ArePut}
use Rattle.lost_cars.specs.Losses.{QuestionFits, questions}
use Rattle.lost_cars.specs.Noting.{AreAnswered}
use Rattle.lost_cars.specs.declared.asks.Ask.{Ask}
use Rattle.lost_cars.specs.declared.question.Question.{Question}
use Rattle.lost_cars.proofs.AskLaws.{questions_few, questions_fit}
use Rattle.lost_cars.proofs.NotedLaws.{all_noted, all_fit, put_count}
use Rattle.lost_cars.proofs.KeepLaws.{keeps_cars}
use Rattle.lost_cars.proofs.losses.lost_cars.Goals as goal

pub asks-requires : goal.asks-requires
asks-requires c =
    let own = c.args.own.now in
    let other = c.args.other.now in
    subst (All (QuestionFits own other)) (sym (c.deref.ensures.value ∙ c.in_ok-questions.ensures)) (All-from_recursion (QuestionFits own other) (questions own other) (questions_fit own other))

pub answered-requires-clause-fit : goal.answered-requires-clause-fit
answered-requires-clause-fit c =
    let own = c.args.own.now in
    let other = c.args.other.now in
    let asks = c.in_ok-asks.asks.items in
    let put = subst (λ (qs : List Question). ArePut own other c.args.day qs asks) (c.deref.ensures.value ∙ c.in_ok-questions.ensures) c.in_ok-asks.ensures in
    subst (All (QuestionFits own other)) (sym (c.deref-2.ensures.value ∙ c.in_ok-parted.ensures.questions)) (all_fit own other c.args.day (questions own other) asks (questions_fit own other) put).0

pub answered-requires-clause-rules : goal.answered-requires-clause-rules
answered-requires-clause-rules c =
    let own = c.args.own.now in
    let other = c.args.other.now in
    let asks = c.in_ok-asks.asks.items in
    let put = subst (λ (qs : List Question). ArePut own other c.args.day qs asks) (c.deref.ensures.value ∙ c.in_ok-questions.ensures) c.in_ok-asks.ensures in
    subst (All (RuleIsSmall (length own.codes))) (sym (c.deref-3.ensures.value ∙ c.in_ok-parted.ensures.rules)) (all_fit own other c.args.day (questions own other) asks (questions_fit own other) put).1

pub answered-requires-clause-counted : goal.answered-requires-clause-counted
answered-requires-clause-counted c =
    let asks = c.in_ok-asks.asks.items in
    ap length (c.deref-2.ensures.value ∙ c.in_ok-parted.ensures.questions) ∙ length-map asks (λ (a : Ask). a.question)
    ∙ sym (ap length (c.deref-3.ensures.value ∙ c.in_ok-parted.ensures.rules) ∙ length-map asks (λ (a : Ask). a.rule))

pub answered-requires-clause-few : goal.answered-requires-clause-few
answered-requires-clause-few c =
    let asks = c.in_ok-asks.asks.items in
    let count : length c.deref-3.result.now ≡ length asks =
    ap length (c.deref-3.ensures.value ∙ c.in_ok-parted.ensures.rules) ∙ length-map asks (λ (a : Ask). a.rule) in
    let most : length asks ≤ length c.deref.result.now = put_count c.args.own.now c.args.other.now c.args.day c.deref.result.now asks c.in_ok-asks.ensures in
    let same : length c.deref.result.now ≡ length (questions c.args.own.now c.args.other.now) = ap length (c.deref.ensures.value ∙ c.in_ok-questions.ensures) in
    omega (arith, count, most, same, questions_few c.args.own.now c.args.other.now c.codes.ensures.book c.codes-others.ensures.book)

pub returns-clause-notes : goal.returns-clause-notes
returns-clause-notes c =
    let own = c.args.own.now in
    let other = c.args.other.now in
    let day = c.args.day in
    let asks = c.in_ok-asks.asks.items in
    let notes = c.in_ok-notes.notes.items in
    let qs = map (λ (a : Ask). a.question) asks in
    let put = subst (λ (ds : List Question). ArePut own other day ds asks) (c.deref.ensures.value ∙ c.in_ok-questions.ensures) c.in_ok-asks.ensures in
    let apart = subst (IsDistinct same_name) c.codes.ensures.value c.names_law.ensures.distinct in
    all_noted own other day c.args.budget apart (questions own other) asks notes put
    (subst (λ (fs : List Rule). AreAnswered own other day c.args.budget qs fs notes) (c.deref-3.ensures.value ∙ c.in_ok-parted.ensures.rules)
    (subst (λ (ds : List Question). AreAnswered own other day c.args.budget ds c.deref-3.result.now notes) (c.deref-2.ensures.value ∙ c.in_ok-parted.ensures.questions) c.in_ok-notes.ensures.notes))

pub returns-clause-keeps : goal.returns-clause-keeps
returns-clause-keeps c =
    let own = c.args.own.now in
    let other = c.args.other.now in
    let day = c.args.day in
    let asks = c.in_ok-asks.asks.items in
    let notes = c.in_ok-notes.notes.items in
    let qs = map (λ (a : Ask). a.question) asks in
    let put = subst (λ (ds : List Question). ArePut own other day ds asks) (c.deref.ensures.value ∙ c.in_ok-questions.ensures) c.in_ok-asks.ensures in
    let apart = subst (IsDistinct same_name) c.codes.ensures.value c.names_law.ensures.distinct in
    keeps_cars own other day c.args.budget notes
    (all_noted own other day c.args.budget apart (questions own other) asks notes put
    (subst (λ (fs : List Rule). AreAnswered own other day c.args.budget qs fs notes) (c.deref-3.ensures.value ∙ c.in_ok-parted.ensures.rules)
    (subst (λ (ds : List Question). AreAnswered own other day c.args.budget ds c.deref-3.result.now notes) (c.deref-2.ensures.value ∙ c.in_ok-parted.ensures.questions) c.in_ok-notes.ensures.notes)))
