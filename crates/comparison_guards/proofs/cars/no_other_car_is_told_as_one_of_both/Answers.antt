use Rattle.comparison_guards.proofs.CarLaws.{common_if_met}
use Rattle.comparison_guards.proofs.PartsHave.{ok_map}
use Rattle.comparison_guards.proofs.cars.no_other_car_is_told_as_one_of_both.Goals as goal

pub returns : goal.returns
returns c =
    ok_map _ _ (λ answer h. common_if_met c.args.own.now c.args.other.now c.args.day c.args.budget answer h) c.common_car.result c.common_car.ensures.answer
