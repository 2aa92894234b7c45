use Rattle.std.proofs.Common.{length}
use Rattle.clausify.specs.Choices.{choices}
use Rattle.clausify.specs.Coded.{usages_start}
use Rattle.clausify.proofs.Remaining.{ChoicesLeft, choices_left}
use Rattle.clausify.proofs.goals.ask_choices.Given as goal

abbrev pub invariant-loop-place : goal.invariant-loop-place
invariant-loop-place l =
    ChoicesLeft l.book (length l.book.codes) l.initial.encoder l.encoder l.initial.asked.items l.asked.items l.left (usages_start l.book l.day)
    (choices l.book l.day) (choices_left l.book l.day l.position-items l.place)
