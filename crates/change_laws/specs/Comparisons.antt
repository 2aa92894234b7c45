-- Two comparisons of the same books on a day, whichever cars they show.
--     bare note           the note without its car
--     AreDecided notes    no search was left
--     TellSame one two    the two tell the same, but for the cars
use Rattle.std.specs.Prelude.{◌≡◌, false, List, [], map}
use Rattle.std.specs.List.{list_any}
use Rattle.book_compare.specs.CompareText.{findings_in, is_finding, is_undecided}
use Rattle.book_compare.specs.declared.note.CompareNote.{CompareNote}
use Rattle.book_compare.specs.declared.note.CompareNote.TheVariants.{Finding, Undecided}

abbrev pub bare : CompareNote → CompareNote
bare (Finding position names) = Finding position []
bare (Undecided position learnt) = Undecided position learnt

abbrev pub AreDecided : List CompareNote → Type 0
AreDecided notes = list_any is_undecided notes ≡ false

pub record TellSame (one two : List CompareNote) : Type 0 where
  pub notes : map bare one ≡ map bare two
  -- some position differs by both or by neither, and as many by the one as by the other
  pub differ : list_any is_finding one ≡ list_any is_finding two
  pub count : findings_in one ≡ findings_in two
