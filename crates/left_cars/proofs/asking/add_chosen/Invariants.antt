use Rattle.std.proofs.Common.{drop, map}
use Rattle.clausify.proofs.Remaining.{ItemsLeft}
use Rattle.left_cars.specs.Left.{chosen_item}
use Rattle.left_cars.proofs.asking.add_chosen.Given as goal

abbrev pub invariant-loop-place : goal.invariant-loop-place
invariant-loop-place l = ItemsLeft l.initial.encoder l.encoder (map chosen_item l.chosen) (map chosen_item (drop l.place-index l.chosen))
