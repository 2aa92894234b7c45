-- Cars of one book that another book loses. Names alone tie the two: a code is absent where the car hasn't its name, and a name that
-- a book hasn't says nothing in its rules.
--     IsCar b day names              the codes are codes of the book, each named once, and a good set
--     is_lost own other day q names  the other book loses the car by this question: its supplementing rule fires over it, its
--                                    constructibility rule is broken, or it lacks a code that the car has
--     questions own other            all of them: supplementing rules, constructibility rules, the own book's codes, in record order
--     lost_rule own other q          over the own book's codes, the formula that a car is lost by the question, if its rule is active
--     Says own other day q f         over the own book's codes, the formula is true just of the sets that are lost by the question
--     AreLosses own other day budget notes    what is told of each question: a car that is lost by it, or nothing where none is, or
--                                    that the search was left
--     KeepsCars own other day        no car is lost: each is a car of the other book
use Rattle.std.specs.Prelude.{◌≡◌, ℕ, ◌<◌, Bool, true, false, ◌&&◌, List, [], ◌∷◌, ◌++◌, is_none, length, map, slice_get}
use Rattle.std.specs.List.{AllByRecursion, IsDistinct, list_any, range_with_len}
use Rattle.std.specs.Option.{option_map_or}
use Rattle.pb_base.specs.InParts.{InParts}
use Rattle.pb_base.specs.Leaves.{with_leaves}
use Rattle.pb_base.specs.NamedSet.{named}
use Rattle.pb_base.specs.Names.{same_name, place_in}
use Rattle.pb_base.specs.Rule.{Rule, code, holds, never}
use Rattle.book_model.specs.Contents.{Contents}
use Rattle.book_model.specs.Good.{is_good, fires, breaks}
use Rattle.rules_met.specs.Met.{IsLeftOn}
use Rattle.pb_base.specs.Picked.{AreNamed, picked}
use Rattle.lost_cars.specs.ByName.{by_name}
use Rattle.lost_cars.specs.Violation.{firing, unmet}
use Rattle.lost_cars.specs.declared.note.Cause.{Cause}
use Rattle.lost_cars.specs.declared.note.Cause.TheVariants.{Entry, Code}
use Rattle.lost_cars.specs.declared.note.LossNote.{LossNote}
use Rattle.lost_cars.specs.declared.note.LossNote.TheVariants.{Lost, Undecided}
use Rattle.lost_cars.specs.declared.question.Question.{Question}
use Rattle.lost_cars.specs.declared.question.Question.TheVariants.{Fires, Breaks, Lacks}

pub record IsCar (b : Contents) (day : ℕ) (names : List (List ℕ)) : Type 0 where
  pub distinct : IsDistinct same_name names
  pub named_there : AreNamed b.codes names
  pub good : is_good b day (named b.codes names) ≡ true

-- the car has the code, and the other book hasn't its name
abbrev pub is_missed : Contents → List (List ℕ) → List ℕ → Bool
is_missed other names name = is_none (place_in other.codes name) && list_any (same_name name) names

abbrev pub is_lost : Contents → Contents → ℕ → Question → List (List ℕ) → Bool
is_lost own other day (Fires place) names = option_map_or (fires day (named other.codes names)) (slice_get other.supplements place) false
is_lost own other day (Breaks place) names = option_map_or (breaks day (named other.codes names)) (slice_get other.constructs place) false
is_lost own other day (Lacks place) names = option_map_or (is_missed other names) (slice_get own.codes place) false

abbrev pub questions : Contents → Contents → List Question
questions own other =
    map (λ p. Fires p) (range_with_len 0 (length other.supplements)) ++ map (λ p. Breaks p) (range_with_len 0 (length other.constructs))
    ++ map (λ p. Lacks p) (range_with_len 0 (length own.codes))

-- the record or code is there
abbrev pub QuestionFits : Contents → Contents → Question → Type 0
QuestionFits own other (Fires place) = place < length other.supplements
QuestionFits own other (Breaks place) = place < length other.constructs
QuestionFits own other (Lacks place) = place < length own.codes

-- the rule's id, or the code's name
abbrev pub cause_of : Contents → Contents → Question → Cause
cause_of own other (Fires place) = Entry (option_map_or (λ s. s.id) (slice_get other.supplements place) [])
cause_of own other (Breaks place) = Entry (option_map_or (λ c. c.id) (slice_get other.constructs place) [])
cause_of own other (Lacks place) = Code (option_map_or (λ name. name) (slice_get own.codes place) [])

abbrev pub read_by_own : Contents → Contents → Rule → Rule
read_by_own own other f = with_leaves (by_name own.codes other.codes) f

abbrev pub lost_rule : Contents → Contents → Question → Rule
lost_rule own other (Fires place) = option_map_or (λ s. read_by_own own other (firing s)) (slice_get other.supplements place) never
lost_rule own other (Breaks place) = option_map_or (λ c. read_by_own own other (unmet c.demand)) (slice_get other.constructs place) never
lost_rule own other (Lacks place) = code place

pub record IsLostBy (own other : Contents) (day : ℕ) (q : Question) (names : List (List ℕ)) : Type 0 where
  pub car : IsCar own day names
  pub lost : is_lost own other day q names ≡ true

abbrev pub Says : Contents → Contents → ℕ → Question → Rule → Type 0
Says own other day q f =
    (names : List (List ℕ)) → AreNamed own.codes names → holds f (named own.codes names) ≡ is_lost own other day q names

-- the search for a car that is lost by the question was left
pub record IsLossLeft (own other : Contents) (day budget : ℕ) (q : Question) : Type 0 where
  pub says : Says own other day q (lost_rule own other q)
  pub left : IsLeftOn own day budget (lost_rule own other q)

abbrev pub LosesNone : Contents → Contents → ℕ → Question → Type 0
LosesNone own other day q = (names : List (List ℕ)) → IsCar own day names → is_lost own other day q names ≡ false

abbrev pub IsLossNote : Contents → Contents → ℕ → ℕ → Question → LossNote → Type 0
IsLossNote own other day budget q (Lost cause x) = (cause ≡ cause_of own other q) × (length x ≡ length own.codes) × IsLostBy own other day q (picked own.codes x)
IsLossNote own other day budget q (Undecided cause) = (cause ≡ cause_of own other q) × IsLossLeft own other day budget q

abbrev pub IsLossNoted : Contents → Contents → ℕ → ℕ → Question → List LossNote → Type 0
IsLossNoted own other day budget q [] = LosesNone own other day q
IsLossNoted own other day budget q (note ∷ []) = IsLossNote own other day budget q note
IsLossNoted own other day budget q (note ∷ more ∷ notes) = ⊥

abbrev pub AreLosses : Contents → Contents → ℕ → ℕ → List LossNote → Type 0
AreLosses own other day budget notes = InParts (IsLossNoted own other day budget) (questions own other) notes

abbrev pub KeepsCars : Contents → Contents → ℕ → Type 0
KeepsCars own other day = (names : List (List ℕ)) → IsCar own day names → IsCar other day names
