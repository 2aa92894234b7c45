use Rattle.std.proofs.Common.{length, subst}
use Rattle.pb_base.specs.Rule.{Rule}
use Rattle.blame.specs.Blame.{IsGivenUp}
use Rattle.blame.specs.Entries.{all_entries}
use Rattle.order_stays.proofs.FindLaws.{car_told, none_told}
use Rattle.order_stays.proofs.StayLaws.{always_fits}
use Rattle.order_stays.proofs.finding.find_anew.Goals as goal

pub find_or_blame-requires-clause-rule : goal.find_or_blame-requires-clause-rule
find_or_blame-requires-clause-rule c = always_fits (length c.args.book.now.codes) c.in_ok-always.always c.in_ok-always.ensures

pub returns-in-Car : goal.returns-in-Car
returns-in-Car c =
    car_told c.args.book.now c.args.day c.args.kept.now c.in_ok-always.always c.in-Car.car (rw c.in-Car.is at c.in_ok-told.ensures)

pub returns-in-NoCar : goal.returns-in-NoCar
returns-in-NoCar c =
    let blamed = rw c.in-NoCar.is at c.in_ok-told.ensures in
    none_told c.args.book.now c.args.day c.args.kept.now c.in_ok-always.always c.in_ok-always.ensures blamed.no_car

pub returns : goal.returns
returns c =
    subst (λ (f : Rule). IsGivenUp c.args.book.now f (all_entries c.args.book.now c.args.day c.args.kept.now) c.args.budget c.in-Undecided.learnt.clauses)
    c.in_ok-always.ensures (rw c.in-Undecided.is at c.in_ok-told.ensures)
