-- The positions at which cars of both books get other parts, with what each book selects.
--     IsDifferNote first second day budget id note    a car of both, and what each book selects for it at the position of an id
--     AreDifferences first second day budget notes    of each position of either book, the first book's first
use Rattle.std.specs.Prelude.{◌≡◌, ℕ, List, [], ◌∷◌}
use Rattle.std.specs.Option.{option_to_list}
use Rattle.pb_base.specs.InParts.{InParts}
use Rattle.pb_base.specs.NamedSet.{named}
use Rattle.book_model.specs.Contents.{Contents}
use Rattle.chosen_parts.specs.Chosen.{chosen, ids_of_either}
use Rattle.book_compare.specs.Common.{AreAlike, DiffersWith}
use Rattle.book_compare.specs.Comparison.{IsLeft}
use Rattle.book_compare.specs.declared.note.CompareNote.{CompareNote}
use Rattle.book_compare.specs.declared.note.CompareNote.TheVariants as compared
use Rattle.book_changes.specs.declared.run.DifferNote.{DifferNote}
use Rattle.book_changes.specs.declared.run.DifferNote.TheVariants.{Differs, Undecided}

-- the search for such a car was left
pub record IsDifferLeft (first second : Contents) (day budget : ℕ) (id : List ℕ) : Type 0 where
  pub learnt : List (List ℕ)
  pub spent : IsLeft first second day budget id learnt

abbrev pub IsDifferNote : Contents → Contents → ℕ → ℕ → List ℕ → DifferNote → Type 0
IsDifferNote first second day budget id (Differs position names has next) =
    (position ≡ id) × DiffersWith first second day id names
    × (option_to_list has ≡ chosen first day id (named first.codes names)) × (option_to_list next ≡ chosen second day id (named second.codes names))
IsDifferNote first second day budget id (Undecided position) = (position ≡ id) × IsDifferLeft first second day budget id

abbrev pub IsDifferNoted : Contents → Contents → ℕ → ℕ → List ℕ → List DifferNote → Type 0
IsDifferNoted first second day budget id [] = AreAlike first second day id
IsDifferNoted first second day budget id (note ∷ []) = IsDifferNote first second day budget id note
IsDifferNoted first second day budget id (note ∷ more ∷ notes) = ⊥

abbrev pub AreDifferences : Contents → Contents → ℕ → ℕ → List DifferNote → Type 0
AreDifferences first second day budget notes = InParts (IsDifferNoted first second day budget) (ids_of_either first second) notes

-- a note of a comparison whose car gets other parts
abbrev pub IsTrueNote : Contents → Contents → ℕ → CompareNote → Type 0
IsTrueNote first second day (compared.Finding position names) = DiffersWith first second day position names
IsTrueNote first second day (compared.Undecided position learnt) = Unit {0}

-- the same note, with what each book selects
abbrev pub IsSelected : Contents → Contents → ℕ → CompareNote → DifferNote → Type 0
IsSelected first second day (compared.Finding position names) (Differs at car has next) =
    (at ≡ position) × (car ≡ names)
    × (option_to_list has ≡ chosen first day position (named first.codes names)) × (option_to_list next ≡ chosen second day position (named second.codes names))
IsSelected first second day (compared.Finding position names) (Undecided at) = ⊥
IsSelected first second day (compared.Undecided position learnt) (Differs at car has next) = ⊥
IsSelected first second day (compared.Undecided position learnt) (Undecided at) = at ≡ position
