use Rattle.std.proofs.Common.{◌≡◌, List, [], ◌∷◌, IfOk, map, map-id, rules, sym, ap, subst, ◌∙◌}
use Rattle.std.proofs.lemmas.Iterator.Adapters.{YieldsList-from_vec}
use Rattle.std.proofs.lemmas.Iterator.Consumers.{YieldsList-end}
use Rattle.std.proofs.lemmas.List.{map-append}
use Rattle.pb_base.specs.Rule.{Rule, either, negation, never}
use Rattle.lost_cars.specs.CommonCar.{any_rule}
use Rattle.lost_cars.specs.declared.asks.Ask.{Ask}
use Rattle.lost_cars.proofs.CommonCarLaws.{any_more}
use Rattle.lost_cars.proofs.common_cars.none_of.Goals as goal

pub loop-ask-preserved : goal.loop-ask-preserved
loop-ask-preserved c =
    let rule : Ask → Rule = λ a. a.rule in
    c.in_ok-any-2.ensures ∙ ap (λ (f : Rule). either f (rule c.in-Some.ask)) c.loop-ask.invariant
    ∙ sym (ap any_rule (map-append rule c.loop-ask.yielded (c.in-Some.ask ∷ [])) ∙ any_more never (map rule c.loop-ask.yielded) (rule c.in-Some.ask))

pub returns : goal.returns
returns c =
    let rule : Ask → Rule = λ a. a.rule in
    let end = YieldsList-end (YieldsList-from_vec {s = c.into_iter-ask-iterator.result} c.args.asks.items (search rules) (search rules))
    c.loop-ask.yielded c.loop-ask.ask-iterator c.loop-ask.yielded_by c.next.result c.next.new.self c.in-None.is c.next.ensures.steps in
    subst (λ (g : Rule). IfOk c.not.result (λ f. f ≡ g)) (ap negation (c.loop-ask.invariant ∙ ap (λ (as_ : List Ask). any_rule (map rule as_)) (sym (map-id c.loop-ask.yielded) ∙ end.0))) c.not.ensures
