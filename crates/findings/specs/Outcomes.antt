-- What comes of a question, and what is put down of it.
--     outcome_of_set q x        where the set meets its goal
--     outcome_of_clause q at    where the clause at a place of the kernel refutes it
--     notes_of outcome          the note on it, if there is one
--     closings_of number outcome    its closing, if it is closed
use Rattle.std.specs.Prelude.{ℕ, Bool, List, [], ◌∷◌, Some, None, if◌then◌else◌}
use Rattle.clausify.specs.Questions.{is_to_close}
use Rattle.clausify.specs.declared.question.Question.{Question}
use Rattle.derivation.specs.declared.closing.Closing.{Closing}
use Rattle.findings.specs.declared.outcome.Outcome.{Outcome}
use Rattle.findings.specs.declared.outcome.Outcome.TheVariants.{Fine, Closed, Noted}
use Rattle.findings.specs.declared.report.Note.{Note}
use Rattle.findings.specs.declared.report.Note.TheVariants.{Finding}

abbrev pub outcome_of_set : Question → List Bool → Outcome
outcome_of_set q x = if is_to_close q then Noted (Finding q (Some x)) else Fine

abbrev pub outcome_of_clause : Question → ℕ → Outcome
outcome_of_clause q at = if is_to_close q then Closed at else Noted (Finding q None)

abbrev pub notes_of : Outcome → List Note
notes_of Fine = []
notes_of (Closed at) = []
notes_of (Noted note) = note ∷ []

abbrev pub closings_of : ℕ → Outcome → List Closing
closings_of number Fine = []
closings_of number (Closed at) = record { question = number; at = at } ∷ []
closings_of number (Noted note) = []
