-- Why a book isn't released, as its author takes it.
--     NamesWhy why      a finding that keeps it back is in the report, or a question that does is, which was left
use Rattle.std.specs.Prelude.{◌≡◌, true}
use Rattle.std.specs.List.{list_any}
use Rattle.findings.specs.Notes.{is_fault, is_left}
use Rattle.release_check.specs.declared.not_released.NotReleased.{NotReleased}
use Rattle.release_check.specs.declared.not_released.NotReleased.TheVariants.{Text, Found, Undecided, Limit}

abbrev pub NamesWhy : NotReleased → Type 0
NamesWhy (Text fault) = Unit {0}
NamesWhy (Found book report) = list_any is_fault report ≡ true
NamesWhy (Undecided book report) = list_any is_left report ≡ true
NamesWhy (Limit fault) = Unit {0}
