-- One run more, behind pending days.
--     pending_after r pending s    the days that are pending behind the run s
--     closed_by r pending s     what is written of the days that were pending
use Rattle.std.specs.Prelude.{ℕ, List, [], if◌then◌else◌}
use Rattle.book_model.specs.Slices.{days_from_to}
use Rattle.book_model.specs.declared.record.Slice.{Slice}
use Rattle.book_changes.specs.Alike.{same_lines}
use Rattle.book_changes.specs.ChangesText.{pair_text, touches}
use Rattle.book_changes.specs.declared.run.RunNotes.{RunNotes}

abbrev pub pending_behind : Slice → Slice → Slice
pending_behind pending days = if touches pending.last days.first then days_from_to pending.first days.last else days

abbrev pub pending_after : RunNotes → Slice → RunNotes → Slice
pending_after r pending s = if same_lines r s then pending_behind pending s.days else pending

abbrev pub closed_behind : Slice → Slice → List ℕ
closed_behind pending days = if touches pending.last days.first then [] else pair_text pending

abbrev pub closed_by : RunNotes → Slice → RunNotes → List ℕ
closed_by r pending s = if same_lines r s then closed_behind pending s.days else []
