use Rattle.std.proofs.Common.{length, ◌*◌, []}
use Rattle.item_search.specs.Search.{IsFound, NoneFound}
use Rattle.item_search.proofs.SearchLaws.{none_below, none_consistent}
use Rattle.left_cars.specs.Left.{is_left}
use Rattle.left_cars.proofs.StateLaws.{none_left}
use Rattle.left_cars.proofs.free.free_counted.Goals as goal

pub ask-requires-clause-below : goal.ask-requires-clause-below
ask-requires-clause-below c = none_below (2 * length c.args.book.now.codes)

pub ask-requires-clause-consistent : goal.ask-requires-clause-consistent
ask-requires-clause-consistent c = none_consistent

pub states_from-requires-clause-left : goal.states_from-requires-clause-left
states_from-requires-clause-left c =
    let found : IsFound (length c.args.book.now.codes) (is_left c.args.book.now c.args.day c.args.chosen.now) [] c.in-Shown.car = rw c.in-Shown.is at c.in_ok-outcome.ensures.outcome in
    found.passes

pub states_from-requires-clause-counted : goal.states_from-requires-clause-counted
states_from-requires-clause-counted c =
    let found : IsFound (length c.args.book.now.codes) (is_left c.args.book.now c.args.day c.args.chosen.now) [] c.in-Shown.car = rw c.in-Shown.is at c.in_ok-outcome.ensures.outcome in
    found.counted

pub returns-in-NotShown : goal.returns-in-NotShown
returns-in-NotShown c =
    let none : NoneFound (length c.args.book.now.codes) (is_left c.args.book.now c.args.day c.args.chosen.now) [] = rw c.in-NotShown.is at c.in_ok-outcome.ensures.outcome in
    none_left c.args.book.now c.args.day c.args.chosen.now none

pub returns-in-Left : goal.returns-in-Left
returns-in-Left c = rw c.in-Left.is at c.in_ok-outcome.ensures.outcome
