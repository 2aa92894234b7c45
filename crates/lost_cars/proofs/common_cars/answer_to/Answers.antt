use Rattle.std.proofs.Common.{◌≡◌, List, [], ◌∷◌, ◌++◌, length, sym, ap, subst, ◌∙◌, All, ◌<◌, ◌^◌, arith}
use Rattle.std.specs.List.{AllZip}
use Rattle.std.proofs.lemmas.List.Elements.{All-from_recursion}
use Rattle.pb_base.specs.Rule.{Rule}
use Rattle.rules_met.specs.Met.{IsAnswer, RuleIsSmall}
use Rattle.lost_cars.proofs.CommonCarLaws.{one_answer, one_count}
use Rattle.lost_cars.proofs.common_cars.answer_to.Goals as goal

pub ask_rules-requires-clause-small : goal.ask_rules-requires-clause-small
ask_rules-requires-clause-small c =
    let rules : c.deref.result.now ≡ c.args.rule ∷ [] = c.deref.ensures.value ∙ c.in_ok-push.ensures.items ∙ ap (λ (rs : List Rule). rs ++ c.args.rule ∷ []) c.new-rules.ensures.items in
    subst (All (RuleIsSmall (length c.args.own.now.codes))) (sym rules)
    (All-from_recursion (RuleIsSmall (length c.args.own.now.codes)) (c.args.rule ∷ []) (c.requires.fits, tt))

pub ask_rules-requires-clause-few : goal.ask_rules-requires-clause-few
ask_rules-requires-clause-few c =
    let rules : length c.deref.result.now ≡ 1 = ap length (c.deref.ensures.value ∙ c.in_ok-push.ensures.items ∙ ap (λ (rs : List Rule). rs ++ c.args.rule ∷ []) c.new-rules.ensures.items) in omega (arith, rules)

pub only-answer-requires : goal.only-answer-requires
only-answer-requires c =
    let rules : c.deref.result.now ≡ c.args.rule ∷ [] = c.deref.ensures.value ∙ c.in_ok-push.ensures.items ∙ ap (λ (rs : List Rule). rs ++ c.args.rule ∷ []) c.new-rules.ensures.items in
    one_count c.args.own.now c.args.day c.args.budget c.args.rule c.in_ok-answers.answers.items
    (subst (λ (fs : List Rule). AllZip (IsAnswer c.args.own.now c.args.day c.args.budget) fs c.in_ok-answers.answers.items) rules c.in_ok-answers.ensures.answers)

pub returns-clause-answer : goal.returns-clause-answer
returns-clause-answer c =
    let rules : c.deref.result.now ≡ c.args.rule ∷ [] = c.deref.ensures.value ∙ c.in_ok-push.ensures.items ∙ ap (λ (rs : List Rule). rs ++ c.args.rule ∷ []) c.new-rules.ensures.items in
    subst (IsAnswer c.args.own.now c.args.day c.args.budget c.args.rule) (sym c.only-answer.ensures)
    (one_answer c.args.own.now c.args.day c.args.budget c.args.rule c.in_ok-answers.answers.items
    (subst (λ (fs : List Rule). AllZip (IsAnswer c.args.own.now c.args.day c.args.budget) fs c.in_ok-answers.answers.items) rules c.in_ok-answers.ensures.answers))
