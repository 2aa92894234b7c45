-- Two reports on one book, whichever sets they show.
--     bare note           the note without its set
--     AreDecided notes    no question was left
--     TellSame one two    the two tell the same, but for the sets
use Rattle.std.specs.Prelude.{◌≡◌, ℕ, Bool, true, false, List, None, map}
use Rattle.std.specs.List.{list_any}
use Rattle.book_model.specs.Contents.{Contents}
use Rattle.findings.specs.Notes.{Inquiry, verdict_of}
use Rattle.findings.specs.declared.report.Ask.{Ask}
use Rattle.findings.specs.declared.report.Note.{Note}
use Rattle.findings.specs.declared.report.Note.TheVariants.{Days, Finding, Undecided}

abbrev pub inquiry_of : Contents → Ask → ℕ → Inquiry
inquiry_of b ask budget = record { book = b; ask = ask; budget = budget }

abbrev pub bare : Note → Note
bare (Days first last) = Days first last
bare (Finding question set) = Finding question None
bare (Undecided question learnt) = Undecided question learnt

abbrev pub is_undecided : Note → Bool
is_undecided (Days first last) = false
is_undecided (Finding question set) = false
is_undecided (Undecided question learnt) = true

abbrev pub AreDecided : List Note → Type 0
AreDecided notes = list_any is_undecided notes ≡ false

pub record TellSame (one two : List Note) : Type 0 where
  pub notes : map bare one ≡ map bare two
  -- so they come to the same
  pub verdict : verdict_of one ≡ verdict_of two
