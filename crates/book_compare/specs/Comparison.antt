-- What a comparison of two books on a day tells.
--     IsNoted first second day budget id notes     of the position of an id: a car that gets other parts, nothing where there is
--                                                  none, or that the search was given up, with the clauses that it learnt
--     IsComparison first second day budget notes   of each position of either book, the first book's first
--     outside first second day                     the first of the books in whose term the day is not
use Rattle.std.specs.Prelude.{◌≡◌, ℕ, List, [], ◌∷◌, Option, None, Some, if◌then◌else◌}
use Rattle.pb_base.specs.InParts.{InParts}
use Rattle.book_model.specs.Activity.{is_within}
use Rattle.book_model.specs.Contents.{Contents}
use Rattle.chosen_parts.specs.Chosen.{ids_of_either}
use Rattle.solver.specs.Answer.{IsSpent}
use Rattle.book_compare.specs.Asked.{asked_clauses, asked_variables, asked_goal}
use Rattle.book_compare.specs.Common.{DiffersWith, AreAlike}
use Rattle.book_compare.specs.declared.note.CompareNote.{CompareNote}
use Rattle.book_compare.specs.declared.note.CompareNote.TheVariants.{Finding, Undecided}
use Rattle.book_compare.specs.declared.note.Outside.{Outside}
use Rattle.book_compare.specs.declared.note.Outside.TheVariants.{First, Second}
use Rattle.book_compare.specs.declared.place.Place.{Place}

-- the search over the position's clauses was given up, after so many clauses that it learnt
abbrev pub IsLeft : Contents → Contents → ℕ → ℕ → List ℕ → List (List ℕ) → Type 0
IsLeft first second day budget id learnt =
    IsSpent (asked_variables first second day id) (asked_clauses first second day id) (asked_goal first second day id ∷ []) budget learnt

abbrev pub IsNote : Contents → Contents → ℕ → ℕ → List ℕ → CompareNote → Type 0
IsNote first second day budget id (Finding position names) = (position ≡ id) × DiffersWith first second day id names
IsNote first second day budget id (Undecided position learnt) = (position ≡ id) × IsLeft first second day budget id learnt.clauses

abbrev pub IsNoted : Contents → Contents → ℕ → ℕ → List ℕ → List CompareNote → Type 0
IsNoted first second day budget id [] = AreAlike first second day id
IsNoted first second day budget id (note ∷ []) = IsNote first second day budget id note
IsNoted first second day budget id (note ∷ more ∷ notes) = ⊥

abbrev pub IsComparison : Contents → Contents → ℕ → ℕ → List CompareNote → Type 0
IsComparison first second day budget notes = InParts (IsNoted first second day budget) (ids_of_either first second) notes

abbrev pub outside : Contents → Contents → ℕ → Option Outside
outside first second day =
    if is_within first.first first.last day then (if is_within second.first second.last day then None else Some Second) else Some First

-- the notes on positions that were searched
abbrev pub IsNotedAt : Contents → Contents → ℕ → ℕ → Place → List CompareNote → Type 0
IsNotedAt first second day budget p notes = IsNoted first second day budget p.id notes

abbrev pub AreNoted : Contents → Contents → ℕ → ℕ → List Place → List CompareNote → Type 0
AreNoted first second day budget ps notes = InParts (IsNotedAt first second day budget) ps notes
