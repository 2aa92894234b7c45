use Rattle.comparison_guards.proofs.PartsHave.{ok_map}
use Rattle.comparison_guards.proofs.RunLaws.{won_new}
use Rattle.comparison_guards.proofs.runs.no_won_car_is_none_of_the_second_book.Goals as goal

pub returns : goal.returns
returns g c =
    ok_map _ _ (λ notes h. won_new c.args.first.now.book c.args.second.now.book c.args.budget notes.items h) c.changes.result c.changes.ensures.notes
