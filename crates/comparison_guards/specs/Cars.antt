-- What is told of cars of one book and another.
--     IsOwnIfLost own day note                  the car of a note is one of the own book
--     IsCommonIfMet own other day answer        the car of an answer is one of both
--     IsToldOf cause notes                      some note is on the cause
--     IsToldIfLost own day loses cause notes    one is, where a car of the book is lost so
use Rattle.std.specs.Prelude.{◌≡◌, ◌⊎◌, ℕ, Bool, true, List, [], ◌∷◌}
use Rattle.pb_base.specs.Picked.{picked}
use Rattle.book_model.specs.Contents.{Contents}
use Rattle.rules_met.specs.declared.answer.RuleAnswer.{RuleAnswer}
use Rattle.rules_met.specs.declared.answer.RuleAnswer.TheVariants.{Met, NotMet, Left}
use Rattle.lost_cars.specs.Losses.{IsCar}
use Rattle.lost_cars.specs.declared.note.Cause.{Cause}
use Rattle.lost_cars.specs.declared.note.LossNote.{LossNote}
use Rattle.lost_cars.specs.declared.note.LossNote.TheVariants.{Lost, Undecided}

abbrev pub IsOwnIfLost : Contents → ℕ → LossNote → Type 0
IsOwnIfLost own day (Lost cause x) = IsCar own day (picked own.codes x)
IsOwnIfLost own day (Undecided cause) = Unit {0}

abbrev pub IsCommonIfMet : Contents → Contents → ℕ → RuleAnswer → Type 0
IsCommonIfMet own other day (Met x) = IsCar own day (picked own.codes x) × IsCar other day (picked own.codes x)
IsCommonIfMet own other day NotMet = Unit {0}
IsCommonIfMet own other day Left = Unit {0}

abbrev pub cause_told : LossNote → Cause
cause_told (Lost cause x) = cause
cause_told (Undecided cause) = cause

abbrev pub IsToldOf : Cause → List LossNote → Type 0
IsToldOf cause [] = ⊥
IsToldOf cause (note ∷ notes) = (cause_told note ≡ cause) ⊎ IsToldOf cause notes

abbrev pub IsToldIfLost : Contents → ℕ → (List (List ℕ) → Bool) → Cause → List LossNote → Type 0
IsToldIfLost own day loses cause notes = (names : List (List ℕ)) → IsCar own day names → loses names ≡ true → IsToldOf cause notes
