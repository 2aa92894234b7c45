use Rattle.std.proofs.Common.{◌≡◌, ◌++◌, map}
use Rattle.std.specs.List.{range_with_len}
use Rattle.lost_cars.specs.declared.question.Question.TheVariants.{Breaks}
use Rattle.lost_cars.proofs.questions.put_breaking.Given as goal

abbrev pub invariant-loop-place : goal.invariant-loop-place
invariant-loop-place l = l.questions.items ≡ l.initial.questions.items ++ map (λ p. Breaks p) (range_with_len 0 l.place)
