use Rattle.std.proofs.Common.{sym, ◌∙◌}
use Rattle.lost_cars.proofs.AskLaws.{ask_firing}
use Rattle.lost_cars.proofs.asks.firing_rule.Goals as goal

pub returns : goal.returns
returns c =
    ask_firing c.args.own.now c.args.other.now c.args.day c.args.place c.supplement_at-supplement.result.now c.supplement_at-supplement.ensures c.codes-codes.ensures.book
    (sym c.active.ensures ∙ c.if-not-active.false) c.in_ok-rule.rule c.in_ok-rule.ensures
