use Rattle.std.proofs.Common.{◌≡◌, map}
use Rattle.lost_cars.proofs.losses.split.Given as goal

-- the questions and formulas are those of what was taken
abbrev pub invariant-loop-ask : goal.invariant-loop-ask
invariant-loop-ask l = record {
  questions : l.parted.questions.items ≡ map (λ a. a.question) l.yielded;
  rules : l.parted.rules.items ≡ map (λ a. a.rule) l.yielded;
}
