use Rattle.std.proofs.Common.{length, arith}
use Rattle.item_search.proofs.SearchLaws.{over_within}
use Rattle.left_cars.specs.Left.{is_left, left_items}
use Rattle.left_cars.proofs.LeftLaws.{left_code}
use Rattle.left_cars.proofs.free.ask.Goals as goal

pub search-requires-clause-within : goal.search-requires-clause-within
search-requires-clause-within c =
    over_within (length c.args.book.now.codes) (left_items c.args.book.now c.args.day c.args.chosen.now) c.args.solver.now c.requires.over

pub search-requires-clause-below : goal.search-requires-clause-below
search-requires-clause-below c = λ l is_in. let low = c.requires.below l is_in in omega (arith, c.requires.over.codes)

pub returns-clause-over : goal.returns-clause-over
returns-clause-over c =
    c.search.ensures.over (length c.args.book.now.codes) (left_items c.args.book.now c.args.day c.args.chosen.now) c.requires.over

pub returns-clause-outcome : goal.returns-clause-outcome
returns-clause-outcome c =
    let b = c.args.book.now in
    let chosen = c.args.chosen.now in
    c.search.ensures.outcome (length b.codes) (left_items b c.args.day chosen) (is_left b c.args.day chosen) c.requires.over
    (left_code b c.args.day chosen c.codes.ensures.book c.requires.chosen)
