use Rattle.std.proofs.Common.{◌≡◌, length}
use Rattle.item_search.specs.Search.{IsOver}
use Rattle.left_cars.specs.Freedom.{AreStates}
use Rattle.left_cars.specs.Left.{left_items}
use Rattle.left_cars.specs.Seen.{AllSeen, IsSeen}
use Rattle.left_cars.proofs.free.states_from.Given as goal

abbrev pub invariant-loop-place : goal.invariant-loop-place
invariant-loop-place l = record {
  over : IsOver (length l.book.codes) (left_items l.book l.day l.chosen) l.solver;
  seen : IsSeen l.book l.day l.chosen l.seen;
  all : AllSeen (length l.book.codes) l.seen;
  counted : length l.states.items ≡ l.place;
  states : AreStates l.book l.day l.chosen l.budget l.states.items;
}
