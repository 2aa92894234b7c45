use Rattle.clausify.specs.Choices.{choices}
use Rattle.clausify.proofs.Remaining.{UsagesLeft, choices_left}
use Rattle.clausify.proofs.choices.usages_of.Given as goal

abbrev pub invariant-loop-place : goal.invariant-loop-place
invariant-loop-place l = UsagesLeft l.book l.initial.encoder l.encoder l.initial.starts.items l.starts.items l.usages.items (choices l.book l.day) (choices_left l.book l.day l.position-items l.place)
