use Rattle.std.proofs.Common.{subst}
use Rattle.std.specs.List.{IsDistinct}
use Rattle.pb_base.specs.Names.{same_name}
use Rattle.lost_cars.proofs.CommonCarLaws.{common_answered}
use Rattle.lost_cars.proofs.common_cars.common_car.Goals as goal

pub returns-clause-answer : goal.returns-clause-answer
returns-clause-answer c =
    common_answered c.args.own.now c.args.other.now c.args.day c.args.budget c.in_ok-rule.rule c.in_ok-answer.answer
    (subst (IsDistinct same_name) c.codes.ensures.value c.names_law.ensures.distinct) c.in_ok-rule.ensures.common c.in_ok-answer.ensures.answer
