-- Two reports on the same requirements, whichever cars they show.
--     bare note           the note without its car
--     AreDecided notes    no search was left
--     TellSame one two    the two tell the same, but for the cars
use Rattle.std.specs.Prelude.{◌≡◌, false, List, [], map}
use Rattle.std.specs.List.{list_any}
use Rattle.kept_requirements.specs.Notes.{failing, is_failing, is_undecided}
use Rattle.kept_requirements.specs.declared.note.RequirementNote.{RequirementNote}
use Rattle.kept_requirements.specs.declared.note.RequirementNote.TheVariants.{Fails, Idle, Undecided}

abbrev pub bare : RequirementNote → RequirementNote
bare (Fails id first last car) = Fails id first last []
bare (Idle id) = Idle id
bare (Undecided id first last) = Undecided id first last

abbrev pub AreDecided : List RequirementNote → Type 0
AreDecided notes = list_any is_undecided notes ≡ false

pub record TellSame (one two : List RequirementNote) : Type 0 where
  pub notes : map bare one ≡ map bare two
  -- a requirement fails by both or by neither, and as many fail by the one as by the other
  pub fails : list_any is_failing one ≡ list_any is_failing two
  pub count : failing one ≡ failing two
