use Rattle.std.proofs.Common.{arith}
use Rattle.std.proofs.lemmas.Grind.{common_steps}
use Rattle.clausify.proofs.ListLaws.{grows_twice}
use Rattle.clausify.proofs.group.add_apart.Goals as goal

pub loop-place-preserved : goal.loop-place-preserved
loop-place-preserved c = record {
  clauses = grind (arith, common_steps);
  grows = grows_twice _ _ _ c.loop-place.invariant.grows c.in_ok-add_apart_from.ensures.grows;
}
