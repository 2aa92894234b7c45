use Rattle.std.specs.Prelude.{slice_index_or}
use Rattle.comparison_guards.proofs.KeptOrderLaws.{told_refused}
use Rattle.comparison_guards.proofs.PartsHave.{ok_map}
use Rattle.comparison_guards.proofs.kept_orders.no_order_is_judged_by_its_own_book.Goals as goal

pub returns : goal.returns
returns g c =
    ok_map _ _ (λ told h k s again within. told_refused c.args.to.now.book (slice_index_or c.args.stock.now k s) (slice_index_or told.items k again) (h.each k s again within)) c.rejudge.result c.rejudge.ensures
