use Rattle.std.proofs.Common.{sym, ◌∙◌}
use Rattle.lost_cars.proofs.AskLaws.{ask_unmet}
use Rattle.lost_cars.proofs.asks.breaking_rule.Goals as goal

pub returns : goal.returns
returns c =
    ask_unmet c.args.own.now c.args.other.now c.args.day c.args.place c.construct_at-construct.result.now c.construct_at-construct.ensures c.codes-codes.ensures.book
    (sym c.active.ensures ∙ c.if-not-active.false) c.in_ok-rule.rule c.in_ok-rule.ensures
