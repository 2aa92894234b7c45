use Rattle.std.proofs.Common.{sym, ◌∙◌}
use Rattle.keeper.proofs.Places.{put_over}
use Rattle.keeper.proofs.table.place_of.Goals as goal

pub returns-in-Equal-clause-place : goal.returns-in-Equal-clause-place
returns-in-Equal-clause-place g c =
    put_over g.R.Keyed.by_key c.args.row.now c.args.rows.now c.loop-place.place c.index-rows-place.result
    c.loop-place-test.true c.index-rows-place.is (sym c.cmp_key.ensures ∙ c.in-Equal.is) c.loop-place.invariant
