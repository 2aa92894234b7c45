use Rattle.std.specs.Prelude.{slice_index_or}
use Rattle.comparison_guards.proofs.KeptOrderLaws.{refused_told}
use Rattle.comparison_guards.proofs.PartsHave.{ok_map}
use Rattle.comparison_guards.proofs.kept_orders.no_order_is_told_the_answer_of_another.Goals as goal

pub returns : goal.returns
returns g c =
    ok_map _ _ (λ told h k s again within. refused_told c.args.to.now.book (slice_index_or c.args.stock.now k s) (slice_index_or told.items k again) (h.each k s again within)) c.rejudge.result c.rejudge.ensures
