use Rattle.std.proofs.Common.{ℕ, ◌<◌, [], length}
use Rattle.std.proofs.lemmas.List.Elements.{All-nil}
use Rattle.order_stays.proofs.StayLaws.{none_at_all, among_none}
use Rattle.order_stays.proofs.staying.staying_with.Goals as goal

pub find_with-requires-clause-kept : goal.find_with-requires-clause-kept
find_with-requires-clause-kept c = All-nil (λ (code : ℕ). code < length c.args.book.now.codes)

pub stay_from-requires-clause-car : goal.stay_from-requires-clause-car
stay_from-requires-clause-car c = rw c.in-Car.is at c.in_ok-found.ensures.found

pub returns-in-NoCar : goal.returns-in-NoCar
returns-in-NoCar c = none_at_all c.args.book.now c.args.day (rw c.in-NoCar.is at c.in_ok-found.ensures.found)

pub returns-in-Undecided : goal.returns-in-Undecided
returns-in-Undecided c = record { kept = []; among = among_none c.args.chosen.now; left = rw c.in-Undecided.is at c.in_ok-found.ensures.found }
