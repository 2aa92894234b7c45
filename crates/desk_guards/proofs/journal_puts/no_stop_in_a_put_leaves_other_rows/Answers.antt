use Rattle.desk_guards.proofs.PutLaws.{with_or_without}
use Rattle.desk_guards.proofs.journal_puts.no_stop_in_a_put_leaves_other_rows.Goals as goal

pub returns : goal.returns
returns g c = λ file image sure told left.
    with_or_without c.args.row.now c.args.keeper.now.stage file image sure ((c.put_order.ensures.put.any_moment file told).each image left)
