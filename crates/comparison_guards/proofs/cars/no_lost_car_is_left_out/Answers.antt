use Rattle.comparison_guards.proofs.PartsHave.{ok_map}
use Rattle.comparison_guards.proofs.cars.no_lost_car_is_left_out.Goals as goal

pub returns : goal.returns
returns c = ok_map _ _ (λ notes keeps names car no_other none. no_other (keeps none names car)) c.lost_cars.result c.lost_cars.ensures.keeps
