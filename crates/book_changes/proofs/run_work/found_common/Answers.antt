use Rattle.std.proofs.Common.{IfOk, sym, subst, All}
use Rattle.book_model.specs.Contents.{Contents}
use Rattle.rules_met.specs.Met.{IsCounted}
use Rattle.lost_cars.specs.CommonCar.{IsCommonAnswer}
use Rattle.book_changes.proofs.run_work.found_common.Goals as goal

pub common_car-requires-clause-counted : goal.common_car-requires-clause-counted
common_car-requires-clause-counted c = subst (λ (b : Contents). All (IsCounted b) c.args.sets.now) (sym c.book-one.ensures.value) c.requires.sets

pub returns-clause-sets : goal.returns-clause-sets
returns-clause-sets c = subst (λ (b : Contents). All (IsCounted b) c.common_car.new.sets) c.book-one.ensures.value c.common_car.ensures.counted

pub returns-clause-answer : goal.returns-clause-answer
returns-clause-answer c =
    subst (λ (b : Contents). IfOk c.common_car.result (IsCommonAnswer b c.args.second.now.book c.args.run.first c.args.budget)) c.book-one.ensures.value
    (subst (λ (b : Contents). IfOk c.common_car.result (IsCommonAnswer c.book-one.result.now b c.args.run.first c.args.budget)) c.book-two.ensures.value c.common_car.ensures.answer)
