-- What it means for orders that nothing is told of a run of days.
--     ChangesNothing notes                  no car is lost or won, the same codes are added, and no position differs
--     ComesAlike first second day names     both books complete an order to the same codes by their names, and both accept it, with the
--                                           same parts, or neither does
--     OrdersComeAlike first second day      so is each order that is well-formed by both
use Rattle.std.specs.Prelude.{◌≡◌, ℕ, true, false, List, []}
use Rattle.std.specs.List.{IsDistinct}
use Rattle.pb_base.specs.NamedSet.{named}
use Rattle.pb_base.specs.Names.{same_name}
use Rattle.book_model.specs.Contents.{Contents}
use Rattle.release.specs.Accepting.{accepts}
use Rattle.release.specs.Orders.{IsWellFormed, supplemented}
use Rattle.chosen_parts.specs.Chosen.{HaveSameParts}
use Rattle.pb_base.specs.Picked.{AreNamed}
use Rattle.book_changes.specs.declared.run.RunNotes.{RunNotes}

pub record ChangesNothing (notes : RunNotes) : Type 0 where
  pub loses_none : notes.lost.items ≡ []
  pub wins_none : notes.won.items ≡ []
  pub adds_alike : notes.added ≡ false
  pub none_differ : notes.differs.items ≡ []

-- the completed codes are those of some names, all of which both books have
pub record ComesAlike (first second : Contents) (day : ℕ) (names : List (List ℕ)) : Type 0 where
  pub completed : List (List ℕ)
  pub distinct : IsDistinct same_name completed
  pub in_first : AreNamed first.codes completed
  pub in_second : AreNamed second.codes completed
  pub by_first : supplemented first day names ≡ named first.codes completed
  pub by_second : supplemented second day names ≡ named second.codes completed
  pub accepted : accepts first day names ≡ accepts second day names
  pub parts : accepts first day names ≡ true → HaveSameParts first second day (supplemented first day names) (supplemented second day names)

abbrev pub OrdersComeAlike : Contents → Contents → ℕ → Type 0
OrdersComeAlike first second day = (names : List (List ℕ)) → IsWellFormed first day names → IsWellFormed second day names → ComesAlike first second day names
