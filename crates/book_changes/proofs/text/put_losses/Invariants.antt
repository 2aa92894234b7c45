use Rattle.std.proofs.Common.{◌≡◌, ◌++◌, drop}
use Rattle.std.specs.List.{flat_map}
use Rattle.book_changes.specs.ChangesText.{loss_line}
use Rattle.book_changes.proofs.text.put_losses.Given as goal

abbrev pub invariant-loop-note : goal.invariant-loop-note
invariant-loop-note l = l.text ++ flat_map (loss_line l.word l.own.codes l.budget) (drop l.note-index l.notes) ≡ l.initial.text ++ flat_map (loss_line l.word l.own.codes l.budget) l.notes
