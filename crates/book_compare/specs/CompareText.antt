-- The lines that tell what a comparison of two books found.
--     note_line note       a position with a car that gets other parts there, or one that was left undecided
--     compare_text notes   the lines, then how many positions differ
use Rattle.std.specs.Prelude.{ℕ, Bool, true, false, List, ◌∷◌, ◌++◌, codes, length, filter}
use Rattle.std.specs.List.{flat_map}
use Rattle.pb_base.specs.Lines.{line, number_behind}
use Rattle.book_compare.specs.declared.note.CompareNote.{CompareNote}
use Rattle.book_compare.specs.declared.note.CompareNote.TheVariants.{Finding, Undecided}

abbrev pub is_finding : CompareNote → Bool
is_finding (Finding position names) = true
is_finding (Undecided position learnt) = false

abbrev pub is_undecided : CompareNote → Bool
is_undecided (Finding position names) = false
is_undecided (Undecided position learnt) = true

-- a name behind a space
abbrev pub name_behind : List ℕ → List ℕ
name_behind name = 32 ∷ name

abbrev pub finding_line : List ℕ → List (List ℕ) → List ℕ
finding_line position names = line (codes "differs " ++ position ++ codes " with" ++ flat_map name_behind names)

abbrev pub undecided_line : List ℕ → ℕ → List ℕ
undecided_line position learnt = line (codes "undecided " ++ position ++ codes " after" ++ number_behind learnt)

abbrev pub note_line : CompareNote → List ℕ
note_line (Finding position names) = finding_line position names
note_line (Undecided position learnt) = undecided_line position (length learnt.clauses)

abbrev pub findings_in : List CompareNote → ℕ
findings_in notes = length (filter is_finding notes)

abbrev pub compare_text : List CompareNote → List ℕ
compare_text notes = flat_map note_line notes ++ line (codes "end" ++ number_behind (findings_in notes))
