use Rattle.std.proofs.Common.{take}
use Rattle.lost_cars.specs.Asks.{ArePut}
use Rattle.lost_cars.proofs.asks.asks.Given as goal

abbrev pub invariant-loop-question : goal.invariant-loop-question
invariant-loop-question l = ArePut l.own l.other l.day (take l.question-index l.questions) l.asks.items
