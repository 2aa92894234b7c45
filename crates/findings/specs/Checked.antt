-- What a check of a slice gives.
--     IsShownBy b s c           what shows the slice, unless a note on it keeps the book from its release
--     IsChecked b effort s c    the same, with the notes on the slice
use Rattle.book_model.specs.Contents.{Contents}
use Rattle.book_model.specs.declared.record.Slice.{Slice}
use Rattle.findings.specs.Answering.{ShowsUnlessStopped, inquiry}
use Rattle.findings.specs.Notes.{SliceNotes}
use Rattle.findings.specs.declared.slice.SliceCheck.{SliceCheck}
use Rattle.findings.specs.declared.task.Effort.{Effort}

abbrev pub IsShownBy : Contents → Slice → SliceCheck → Type 0
IsShownBy b s c = ShowsUnlessStopped b s c.notes.items c.proof

pub record IsChecked (b : Contents) (effort : Effort) (s : Slice) (c : SliceCheck) : Type 0 where
  pub notes : SliceNotes (inquiry b effort) s c.notes.items
  pub shown : IsShownBy b s c
