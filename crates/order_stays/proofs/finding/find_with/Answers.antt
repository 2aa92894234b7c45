use Rattle.std.proofs.Common.{length}
use Rattle.book_model.specs.Good.{is_good}
use Rattle.item_search.specs.Search.{IsFound, NoneFound}
use Rattle.order_stays.specs.Stays.{codes_literals}
use Rattle.order_stays.proofs.FindLaws.{car_found, none_found}
use Rattle.order_stays.proofs.finding.find_with.Goals as goal

pub returns-in-Shown-clause-found : goal.returns-in-Shown-clause-found
returns-in-Shown-clause-found c =
    let found : IsFound (length c.args.book.now.codes) (is_good c.args.book.now c.args.day) (codes_literals c.args.kept.now) c.in-Shown.car =
    rw c.in-Shown.is at c.in_ok-outcome.ensures.outcome in
    car_found c.args.book.now c.args.day c.args.kept.now c.in-Shown.car found

pub returns-in-NotShown-clause-found : goal.returns-in-NotShown-clause-found
returns-in-NotShown-clause-found c =
    let none : NoneFound (length c.args.book.now.codes) (is_good c.args.book.now c.args.day) (codes_literals c.args.kept.now) =
    rw c.in-NotShown.is at c.in_ok-outcome.ensures.outcome in
    none_found c.args.book.now c.args.day c.args.kept.now none
