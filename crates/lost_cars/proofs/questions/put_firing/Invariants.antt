use Rattle.std.proofs.Common.{◌≡◌, ◌++◌, map}
use Rattle.std.specs.List.{range_with_len}
use Rattle.lost_cars.specs.declared.question.Question.TheVariants.{Fires}
use Rattle.lost_cars.proofs.questions.put_firing.Given as goal

abbrev pub invariant-loop-place : goal.invariant-loop-place
invariant-loop-place l = l.questions.items ≡ l.initial.questions.items ++ map (λ p. Fires p) (range_with_len 0 l.place)
