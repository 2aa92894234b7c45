-- The notes by what is answered of questions that were asked.
--     notes_by own other qs answers      what is told of questions by the answers to their formulas
--     AreAnswered own other day budget qs fs notes    they are those by right answers to the formulas of these questions
use Rattle.std.specs.Prelude.{◌≡◌, ℕ, List, [], ◌∷◌, ◌++◌}
use Rattle.std.specs.List.{AllZip}
use Rattle.pb_base.specs.Rule.{Rule}
use Rattle.book_model.specs.Contents.{Contents}
use Rattle.rules_met.specs.Met.{IsAnswer}
use Rattle.rules_met.specs.declared.answer.RuleAnswer.{RuleAnswer}
use Rattle.rules_met.specs.declared.answer.RuleAnswer.TheVariants.{Met, NotMet, Left}
use Rattle.lost_cars.specs.Losses.{cause_of}
use Rattle.lost_cars.specs.declared.note.LossNote.{LossNote}
use Rattle.lost_cars.specs.declared.note.LossNote.TheVariants.{Lost, Undecided}
use Rattle.lost_cars.specs.declared.question.Question.{Question}

abbrev pub notes_for : Contents → Contents → Question → RuleAnswer → List LossNote
notes_for own other q (Met x) = Lost (cause_of own other q) x ∷ []
notes_for own other q NotMet = []
notes_for own other q Left = Undecided (cause_of own other q) ∷ []

abbrev pub notes_by : Contents → Contents → List Question → List RuleAnswer → List LossNote
notes_by own other [] answers = []
notes_by own other (q ∷ qs) [] = []
notes_by own other (q ∷ qs) (answer ∷ answers) = notes_for own other q answer ++ notes_by own other qs answers

pub record AreAnswered (own other : Contents) (day budget : ℕ) (qs : List Question) (fs : List Rule) (notes : List LossNote) : Type 0 where
  pub answers : List RuleAnswer
  pub right : AllZip (IsAnswer own day budget) fs answers
  pub notes_are : notes ≡ notes_by own other qs answers
