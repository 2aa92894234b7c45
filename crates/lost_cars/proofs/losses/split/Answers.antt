use Rattle.std.proofs.Common.{List, [], ◌∷◌, ◌++◌, map, map-id, rules, sym, ap, ◌∙◌}
use Rattle.std.proofs.lemmas.Iterator.Adapters.{YieldsList-from_vec}
use Rattle.std.proofs.lemmas.Iterator.Consumers.{YieldsList-end}
use Rattle.std.proofs.lemmas.List.{map-append}
use Rattle.lost_cars.specs.declared.asks.Ask.{Ask}
use Rattle.lost_cars.proofs.losses.split.Goals as goal

pub returns-clause-questions : goal.returns-clause-questions
returns-clause-questions c =
    let end = YieldsList-end (YieldsList-from_vec {s = c.into_iter-ask-iterator.result} c.args.asks.items (search rules) (search rules))
    c.loop-ask.yielded c.loop-ask.ask-iterator c.loop-ask.yielded_by c.next.result c.next.new.self c.in-None.is c.next.ensures.steps in
    c.loop-ask.invariant.questions ∙ ap (map (λ (a : Ask). a.question)) (sym (map-id c.loop-ask.yielded) ∙ end.0)

pub returns-clause-rules : goal.returns-clause-rules
returns-clause-rules c =
    let end = YieldsList-end (YieldsList-from_vec {s = c.into_iter-ask-iterator.result} c.args.asks.items (search rules) (search rules))
    c.loop-ask.yielded c.loop-ask.ask-iterator c.loop-ask.yielded_by c.next.result c.next.new.self c.in-None.is c.next.ensures.steps in
    c.loop-ask.invariant.rules ∙ ap (map (λ (a : Ask). a.rule)) (sym (map-id c.loop-ask.yielded) ∙ end.0)
