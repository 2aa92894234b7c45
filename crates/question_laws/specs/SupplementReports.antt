-- Two reports on the supplementing rules of one book, whichever sets they show.
--     bare note           the note without its set
--     AreDecided notes    no search was left
--     TellSame one two    the two tell the same, but for the sets
use Rattle.std.specs.Prelude.{◌≡◌, false, List, [], map}
use Rattle.std.specs.List.{list_any}
use Rattle.supplement_findings.specs.Notes.{findings_in, is_finding, is_undecided}
use Rattle.supplement_findings.specs.declared.report.SupplementNote.{SupplementNote}
use Rattle.supplement_findings.specs.declared.report.SupplementNote.TheVariants.{Days, Finding, Undecided}

abbrev pub bare : SupplementNote → SupplementNote
bare (Days first last) = Days first last
bare (Finding question set) = Finding question []
bare (Undecided question learnt) = Undecided question learnt

abbrev pub AreDecided : List SupplementNote → Type 0
AreDecided notes = list_any is_undecided notes ≡ false

pub record TellSame (one two : List SupplementNote) : Type 0 where
  pub notes : map bare one ≡ map bare two
  -- something is found by both or by neither, and as much by the one as by the other
  pub found : list_any is_finding one ≡ list_any is_finding two
  pub count : findings_in one ≡ findings_in two
