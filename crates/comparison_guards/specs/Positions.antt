-- What the notes of a comparison say of positions and cars.
--     IsTold id notes                                some note is on the position of an id
--     IsToldIfChanged first second day notes id      one is where a car of both books gets other parts there
--     IsToldIfAdded first second day notes id        one is where only the second book has the position, and a car of both gets a
--                                                    part there
--     IsOfBoth first second day note                 the car of a note is one of both books
use Rattle.std.specs.Prelude.{◌≡◌, ◌⊎◌, ℕ, List, [], ◌∷◌, None}
use Rattle.pb_base.specs.NamedSet.{named}
use Rattle.book_model.specs.Contents.{Contents}
use Rattle.chosen_parts.specs.Chosen.{chosen, position_place}
use Rattle.book_compare.specs.Common.{DiffersWith, IsCommon}
use Rattle.book_compare.specs.declared.note.CompareNote.{CompareNote}
use Rattle.book_compare.specs.declared.note.CompareNote.TheVariants.{Finding, Undecided}

abbrev pub position_of : CompareNote → List ℕ
position_of (Finding position names) = position
position_of (Undecided position learnt) = position

abbrev pub IsTold : List ℕ → List CompareNote → Type 0
IsTold id [] = ⊥
IsTold id (note ∷ notes) = (position_of note ≡ id) ⊎ IsTold id notes

abbrev pub IsToldIfChanged : Contents → Contents → ℕ → List CompareNote → List ℕ → Type 0
IsToldIfChanged first second day notes id = (names : List (List ℕ)) → DiffersWith first second day id names → IsTold id notes

pub record GetsSome (first second : Contents) (day : ℕ) (id : List ℕ) (names : List (List ℕ)) : Type 0 where
  pub common : IsCommon first second day names
  pub some : chosen second day id (named second.codes names) ≡ [] → ⊥

abbrev pub IsToldIfAdded : Contents → Contents → ℕ → List CompareNote → List ℕ → Type 0
IsToldIfAdded first second day notes id =
    position_place first id ≡ None → (names : List (List ℕ)) → GetsSome first second day id names → IsTold id notes

abbrev pub IsOfBoth : Contents → Contents → ℕ → CompareNote → Type 0
IsOfBoth first second day (Finding position names) = IsCommon first second day names
IsOfBoth first second day (Undecided position learnt) = Unit {0}
