use Rattle.comparison_guards.proofs.CarLaws.{each_told}
use Rattle.comparison_guards.proofs.PartsHave.{ok_map}
use Rattle.comparison_guards.proofs.cars.no_cause_of_a_lost_car_is_left_out.Goals as goal

pub returns : goal.returns
returns c =
    ok_map _ _ (λ notes h. each_told c.args.own.now c.args.other.now c.args.day c.args.budget notes.items h) c.lost_cars.result c.lost_cars.ensures.notes
