use Rattle.std.proofs.Common.{length}
use Rattle.book_model.specs.Good.{is_good}
use Rattle.item_search.specs.Search.{IsFound}
use Rattle.order_stays.specs.Stays.{codes_literals}
use Rattle.order_stays.proofs.FindLaws.{car_found}
use Rattle.order_stays.proofs.together.search_together.Goals as goal

pub returns-in-Shown : goal.returns-in-Shown
returns-in-Shown c =
    let found : IsFound (length c.args.book.now.codes) (is_good c.args.book.now c.args.day) (codes_literals c.args.chosen.now) c.in-Shown.car =
    rw c.in-Shown.is at c.in_ok-outcome.ensures.outcome in
    car_found c.args.book.now c.args.day c.args.chosen.now c.in-Shown.car found
