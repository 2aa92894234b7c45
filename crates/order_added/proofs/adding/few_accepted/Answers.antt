use Rattle.std.proofs.Common.{◌≡◌, ◌∙◌, ℕ, List, true, ap, append-nil, sym}
use Rattle.order_added.specs.Judging.{passes_with}
use Rattle.order_added.proofs.AcceptLaws.{few_counted}
use Rattle.order_added.proofs.adding.few_accepted.Goals as goal

pub returns-then-accepted-clause-few : goal.returns-then-accepted-clause-few
returns-then-accepted-clause-few c =
    let few : List ℕ = c.in_ok-few.few.items in
    let all = c.count_positions.new.self in
    let passed : passes_with all few ≡ true =
    ap (passes_with all) (sym (append-nil c.deref-2.result.now ∙ c.deref-2.ensures.value)) ∙ sym c.in_ok-accepted.ensures ∙ c.if-accepted.true in
    few_counted c.args.judge.now c.few_by_rules.new.judge all few c.requires.positions c.in_ok-few.ensures.judge c.count_positions.ensures passed c.in_ok-few.ensures.few
