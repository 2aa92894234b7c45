use Rattle.keeper.proofs.Places.{IsBehind}
use Rattle.keeper.proofs.table.place_of.Given as goal

abbrev pub invariant-loop-place : goal.invariant-loop-place
invariant-loop-place g l = IsBehind g.R.Keyed.by_key l.row l.rows l.place
