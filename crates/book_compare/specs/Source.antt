-- What is asked of two books: for each position, a set with which they choose other parts there.
--     form_of c              the questions, their clauses and what shows an answer
--     note_of codes told     the note by what is told of a position, with the names of the first book's codes
use Rattle.std.specs.Prelude.{ℕ, List, length}
use Rattle.book_model.specs.Contents.{Contents}
use Rattle.inquiry.specs.Form.{Form}
use Rattle.inquiry.specs.declared.told.Told.{Told}
use Rattle.inquiry.specs.declared.told.Told.TheVariants as told
use Rattle.book_compare.specs.JointItems.{joint_variables}
use Rattle.pb_base.specs.Picked.{picked}
use Rattle.book_compare.specs.Shown.{shows}
use Rattle.book_compare.specs.Together.{searched_clauses, searched_variables, searched_goals}
use Rattle.book_compare.specs.declared.comparing.Comparing.{Comparing}
use Rattle.book_compare.specs.declared.note.CompareNote.{CompareNote}
use Rattle.book_compare.specs.declared.note.CompareNote.TheVariants.{Finding, Undecided}
use Rattle.book_compare.specs.declared.place.Place.{Place}
use Rattle.book_compare.specs.declared.place.TheConstants.{MOST_OF_POSITION}

abbrev pub comparison : Contents → Contents → ℕ → Form Place
comparison first second day = record {
  codes = length first.codes;
  shows = λ p x. shows first second day p.id x;
  clauses = searched_clauses first second day;
  variables = searched_variables first second day;
  goals = searched_goals first second day;
  shared = joint_variables first second day;
  size = λ p. MOST_OF_POSITION;
}

abbrev pub form_of : Comparing → Form Place
form_of c = comparison c.first.now c.second.now c.day

abbrev pub note_of : List (List ℕ) → Told Place → CompareNote
note_of codes (told.Finding p set) = Finding p.id (picked codes set)
note_of codes (told.Undecided p learnt) = Undecided p.id learnt
