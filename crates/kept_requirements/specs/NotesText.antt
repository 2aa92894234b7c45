-- The text that tells which requirements the cars of a book keep.
--     note_text b budget note    the line of a note
--     requirement_text b budget notes    a line for each note, and how many requirements fail
use Rattle.std.specs.Prelude.{ℕ, Bool, List, ◌++◌, codes}
use Rattle.std.specs.List.{flat_map}
use Rattle.book_model.specs.Contents.{Contents}
use Rattle.pb_base.specs.Lines.{line, number_behind}
use Rattle.pb_base.specs.NamesText.{names_from}
use Rattle.kept_requirements.specs.Notes.{failing}
use Rattle.kept_requirements.specs.declared.note.RequirementNote.{RequirementNote}
use Rattle.kept_requirements.specs.declared.note.RequirementNote.TheVariants.{Fails, Idle, Undecided}

abbrev pub fails_text : Contents → List ℕ → ℕ → ℕ → List Bool → List ℕ
fails_text b id first last car = line (codes "fails " ++ id ++ number_behind first ++ number_behind last ++ codes " with" ++ names_from 0 car b.codes)

abbrev pub idle_text : List ℕ → List ℕ
idle_text id = line (codes "idle " ++ id)

-- a search is left when as many clauses have been learnt as the budget allows
abbrev pub undecided_text : ℕ → List ℕ → ℕ → ℕ → List ℕ
undecided_text budget id first last =
    line (codes "undecided " ++ id ++ number_behind first ++ number_behind last ++ codes " after" ++ number_behind budget)

abbrev pub note_text : Contents → ℕ → RequirementNote → List ℕ
note_text b budget (Fails id first last car) = fails_text b id first last car
note_text b budget (Idle id) = idle_text id
note_text b budget (Undecided id first last) = undecided_text budget id first last

abbrev pub end_text : ℕ → List ℕ
end_text n = line (codes "end" ++ number_behind n)

abbrev pub requirement_text : Contents → ℕ → List RequirementNote → List ℕ
requirement_text b budget notes = flat_map (note_text b budget) notes ++ end_text (failing notes)
