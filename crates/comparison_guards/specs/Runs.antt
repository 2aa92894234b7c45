-- What is told of a run of days.
--     HasDays notes               the run doesn't end before it begins
--     WinsOwnCars second notes    each car that is won is one of the second book
use Rattle.std.specs.Prelude.{◌≤◌}
use Rattle.std.specs.List.{AllByRecursion}
use Rattle.book_model.specs.Contents.{Contents}
use Rattle.book_changes.specs.declared.run.RunNotes.{RunNotes}
use Rattle.comparison_guards.specs.Cars.{IsOwnIfLost}

abbrev pub HasDays : RunNotes → Type 0
HasDays notes = notes.days.first ≤ notes.days.last

abbrev pub WinsOwnCars : Contents → RunNotes → Type 0
WinsOwnCars second notes = AllByRecursion (IsOwnIfLost second notes.days.first) notes.won.items
