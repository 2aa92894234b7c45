-- What is asked by packs of positions.
--     IsAsked c budget     two books that are compared, and a budget within its bounds
--     places_in pack       the positions of a pack
--     notes_in notes       the notes on a pack
use Rattle.std.specs.Prelude.{ℕ, ◌<◌, ◌≤◌, List}
use Rattle.pb_base.specs.declared.limits.TheConstants.{MOST_BUDGET}
use Rattle.book_compare.specs.Comparing.{IsComparing}
use Rattle.book_compare.specs.declared.comparing.Comparing.{Comparing}
use Rattle.book_compare.specs.declared.note.CompareNote.{CompareNote}
use Rattle.book_compare.specs.declared.place.Place.{Place}

pub record IsAsked (c : Comparing) (budget : ℕ) : Type 0 where
  pub ready : IsComparing c
  pub some : 0 < budget
  pub most : budget ≤ MOST_BUDGET

abbrev pub places_in : List Place → List Place
places_in pack = pack

abbrev pub notes_in : List CompareNote → List CompareNote
notes_in notes = notes
