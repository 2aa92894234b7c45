use Rattle.std.proofs.Common.{◌≡◌, ◌++◌, drop}
use Rattle.lost_cars.specs.Noting.{notes_by}
use Rattle.lost_cars.proofs.losses.notes_of.Given as goal

-- with the notes on the questions that are left they are the notes on all
abbrev pub invariant-loop-at : goal.invariant-loop-at
invariant-loop-at l = l.notes.items ++ notes_by l.own l.other (drop l.at l.questions) (drop l.at l.answers) ≡ notes_by l.own l.other l.questions l.answers
