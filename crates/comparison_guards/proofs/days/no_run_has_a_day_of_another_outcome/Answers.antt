use Rattle.comparison_guards.proofs.DayLaws.{refused_through}
use Rattle.comparison_guards.proofs.PartsHave.{ok_map}
use Rattle.comparison_guards.proofs.days.no_run_has_a_day_of_another_outcome.Goals as goal

pub returns : goal.returns
returns c =
    ok_map _ _ (λ runs h k d within. refused_through c.args.book.now c.args.names.now _ (h.told k d within)) c.order_days.result c.order_days.ensures.runs
