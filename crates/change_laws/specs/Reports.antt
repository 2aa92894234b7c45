-- Two reports of what changes from one book to another, whichever cars they show.
--     bare_loss note, bare_differ note    the note without its car and what is selected for it
--     AreDecided runs      no search was left
--     TellSame one two     run by run the two tell the same of the same days, but for the cars
use Rattle.std.specs.Prelude.{◌≡◌, false, List, [], None, map}
use Rattle.std.specs.List.{AllZip, list_any}
use Rattle.lost_cars.specs.declared.note.LossNote.{LossNote}
use Rattle.lost_cars.specs.declared.note.LossNote.TheVariants as loss
use Rattle.book_changes.specs.ChangesText.{is_changed, is_undecided, told_behind}
use Rattle.book_changes.specs.declared.run.DifferNote.{DifferNote}
use Rattle.book_changes.specs.declared.run.DifferNote.TheVariants as differ
use Rattle.book_changes.specs.declared.run.RunNotes.{RunNotes}

abbrev pub bare_loss : LossNote → LossNote
bare_loss (loss.Lost cause car) = loss.Lost cause []
bare_loss (loss.Undecided cause) = loss.Undecided cause

abbrev pub bare_differ : DifferNote → DifferNote
bare_differ (differ.Differs position names has next) = differ.Differs position [] None None
bare_differ (differ.Undecided position) = differ.Undecided position

abbrev pub AreDecided : List RunNotes → Type 0
AreDecided runs = list_any is_undecided runs ≡ false

pub record IsSameRun (r s : RunNotes) : Type 0 where
  pub days : r.days ≡ s.days
  pub common : r.common ≡ s.common
  pub lost : map bare_loss r.lost.items ≡ map bare_loss s.lost.items
  pub won : map bare_loss r.won.items ≡ map bare_loss s.won.items
  pub added : r.added ≡ s.added
  pub differs : map bare_differ r.differs.items ≡ map bare_differ s.differs.items

pub record TellSame (one two : List RunNotes) : Type 0 where
  pub runs : AllZip IsSameRun one two
  -- something changes by both or by neither, and in as many lines by the one as by the other
  pub changed : list_any is_changed one ≡ list_any is_changed two
  pub count : told_behind [] one ≡ told_behind [] two
