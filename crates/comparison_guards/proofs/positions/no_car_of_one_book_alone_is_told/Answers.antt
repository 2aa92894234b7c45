use Rattle.comparison_guards.proofs.PartsHave.{ok_map}
use Rattle.comparison_guards.proofs.PositionLaws.{cars_of_both}
use Rattle.comparison_guards.proofs.positions.no_car_of_one_book_alone_is_told.Goals as goal

pub returns : goal.returns
returns c =
    ok_map _ _ (λ notes h. cars_of_both c.args.first.now.book c.args.second.now.book c.args.day c.args.budget notes.items h) c.compare.result c.compare.ensures.notes
