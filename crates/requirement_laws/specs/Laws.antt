-- Requirements on which nothing is told, and lines of parts lists.
--     note_id note           the requirement that a note is on
--     HasNoLine id notes     none of the notes is on the requirement
--     HasLineOf b part list  a line of the parts list is printed with the part
use Rattle.std.specs.Prelude.{◌≡◌, ℕ, List, ◌++◌, codes}
use Rattle.std.specs.Fmt.{decimal}
use Rattle.std.specs.List.{AllByRecursion, Any}
use Rattle.book_model.specs.Contents.{Contents}
use Rattle.book_model.specs.Parts.{PartsLine}
use Rattle.kept_requirements.specs.declared.note.RequirementNote.{RequirementNote}
use Rattle.kept_requirements.specs.declared.note.RequirementNote.TheVariants.{Fails, Idle, Undecided}
use Rattle.order_text.specs.OutcomeText.{part_text}

abbrev pub note_id : RequirementNote → List ℕ
note_id (Fails id first last car) = id
note_id (Idle id) = id
note_id (Undecided id first last) = id

abbrev pub HasNoLine : List ℕ → List RequirementNote → Type 0
HasNoLine id notes = AllByRecursion (λ note. note_id note ≡ id → ⊥) notes

-- behind its module and its position the line has this part and how many of it
pub record IsLineOf (b : Contents) (part : List ℕ) (line : PartsLine) : Type 0 where
  pub quantity : ℕ
  pub printed : part_text b line.variant ≡ part ++ codes "," ++ decimal quantity

abbrev pub HasLineOf : Contents → List ℕ → List PartsLine → Type 0
HasLineOf b part list = Any (IsLineOf b part) list
