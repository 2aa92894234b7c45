-- Runs of days of which the same is told, but for the cars.
--     same_lines r s      the same is told of two runs, whichever cars are shown
--     told_before r before    of one of these runs the same is told
use Rattle.std.specs.Prelude.{Bool, true, false, ◌&&◌, List}
use Rattle.std.specs.List.{list_any}
use Rattle.pb_base.specs.Names.{same_name}
use Rattle.firing_sequence.specs.Sequence.{zip_all}
use Rattle.lost_cars.specs.declared.note.Cause.{Cause}
use Rattle.lost_cars.specs.declared.note.Cause.TheVariants.{Entry, Code}
use Rattle.lost_cars.specs.declared.note.LossNote.{LossNote}
use Rattle.lost_cars.specs.declared.note.LossNote.TheVariants as loss
use Rattle.book_changes.specs.declared.run.Common.{Common}
use Rattle.book_changes.specs.declared.run.Common.TheVariants as common
use Rattle.book_changes.specs.declared.run.DifferNote.{DifferNote}
use Rattle.book_changes.specs.declared.run.DifferNote.TheVariants as differ
use Rattle.book_changes.specs.declared.run.RunNotes.{RunNotes}

abbrev pub same_cause : Cause → Cause → Bool
same_cause (Entry a) (Entry b) = same_name a b
same_cause (Code a) (Code b) = same_name a b
same_cause _ _ = false

abbrev pub same_loss : LossNote → LossNote → Bool
same_loss (loss.Lost a x) (loss.Lost b y) = same_cause a b
same_loss (loss.Undecided a) (loss.Undecided b) = same_cause a b
same_loss _ _ = false

abbrev pub same_differ : DifferNote → DifferNote → Bool
same_differ (differ.Differs a names has next) (differ.Differs b others had then_) = same_name a b
same_differ (differ.Undecided a) (differ.Undecided b) = same_name a b
same_differ _ _ = false

abbrev pub same_common : Common → Common → Bool
same_common common.Shared common.Shared = true
same_common common.Nowhere common.Nowhere = true
same_common common.Undecided common.Undecided = true
same_common _ _ = false

abbrev pub same_flag : Bool → Bool → Bool
same_flag true true = true
same_flag false false = true
same_flag _ _ = false

abbrev pub same_lines : RunNotes → RunNotes → Bool
same_lines r s =
    same_common r.common s.common && zip_all same_loss r.lost.items s.lost.items && zip_all same_loss r.won.items s.won.items
    && same_flag r.added s.added && zip_all same_differ r.differs.items s.differs.items

abbrev pub told_before : RunNotes → List RunNotes → Bool
told_before r before = list_any (same_lines r) before
