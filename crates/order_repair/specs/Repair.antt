-- What an order comes to, and how it would be accepted. Its chosen codes are told by their places in the book.
--     IsAddition b day kept added        the kept codes and then the added ones are accepted, and none that is added can go
--     IsUnfitCar b day kept x unfit      a car with the kept codes can't be built
--     IsKept b day chosen budget k       what clashes, which of the chosen codes stay, and what is changed then
--     IsRepair b day chosen budget accepted r    what is told of an order that is accepted, or isn't
--     IsMended b day r                   what is told to change makes the order accepted, and at a book that can be released it is told
--     IsAnswer b day names budget a      what is added to the order, what it comes to, and how it would be accepted
use Rattle.std.specs.Prelude.{◌≡◌, ℕ, Bool, true, false, List, [], ◌++◌, None, Some, Ok, IfSome}
use Rattle.pb_base.specs.NamedSet.{named}
use Rattle.pb_base.specs.Places.{names_at, places_of}
use Rattle.pb_base.specs.Rule.{always}
use Rattle.book_model.specs.Contents.{Contents}
use Rattle.book_model.specs.Good.{is_good}
use Rattle.book_model.specs.Sound.{IsReleasable}
use Rattle.supplement.specs.Completion.{completion_of}
use Rattle.parts_usage.specs.Fault.{order_fault}
use Rattle.parts_usage.specs.Outcome.{outcome_of}
use Rattle.parts_usage.specs.Unfit.{first_unfit_of}
use Rattle.parts_usage.specs.declared.judgement.Outcome.{Outcome}
use Rattle.parts_usage.specs.declared.judgement.Outcome.TheVariants.{Accepted, Refused, Unfit as UnfitOutcome}
use Rattle.parts_usage.specs.declared.unfit.Unfit.{Unfit as UnfitPosition}
use Rattle.blame.specs.Blame.{AreBlamed}
use Rattle.blame.specs.Entries.{Among}
use Rattle.blame.specs.declared.blamed.Blamed.{Blamed}
use Rattle.order_added.specs.Accepted.{is_accepted}
use Rattle.order_added.specs.Added.{IsAdded}
use Rattle.order_stays.specs.Stays.{IsCarWith, IsLeftWith, IsStay}
use Rattle.order_repair.specs.Places.{left_out}
use Rattle.order_repair.specs.declared.answer.Change.{Change}
use Rattle.order_repair.specs.declared.answer.Change.TheVariants.{Add, Unfit}
use Rattle.order_repair.specs.declared.answer.Kept.{Kept}
use Rattle.order_repair.specs.declared.answer.Repair.{Repair}
use Rattle.order_repair.specs.declared.answer.Repair.TheVariants.{NotNeeded, Undecided, NoOrder, Keep}
use Rattle.order_repair.specs.declared.answer.WhyAnswer.{WhyAnswer}

-- in record order, and none where the kept codes are accepted
pub record IsAddition (b : Contents) (day : ℕ) (kept : List ℕ) (names : List (List ℕ)) : Type 0 where
  pub added : IsAdded b day (names_at b.codes kept) names
  pub in_order : Among b.codes names
  pub none : is_accepted b day (names_at b.codes kept) ≡ true → names ≡ []

-- the kept codes aren't accepted either
pub record IsUnfitCar (b : Contents) (day : ℕ) (kept : List ℕ) (x : List Bool) (unfit : UnfitPosition) : Type 0 where
  pub car : IsCarWith b day kept x
  pub first : first_unfit_of b day x ≡ Some unfit
  pub refused : is_accepted b day (names_at b.codes kept) ≡ false

abbrev pub IsChange : Contents → ℕ → List ℕ → Change → Type 0
IsChange b day kept (Add added) = IsAddition b day kept added.items
IsChange b day kept (Unfit x unfit) = IsUnfitCar b day kept x unfit

-- of the chosen codes these stay: some car has them, and none of the others can be put to them. All stay where nothing clashes
pub record IsKept (b : Contents) (day : ℕ) (chosen : List ℕ) (budget : ℕ) (k : Kept) : Type 0 where
  pub clash : IfSome k.clash (AreBlamed b day chosen always budget)
  pub all : k.clash ≡ None → k.codes.items ≡ chosen
  pub car : List Bool
  pub stay : IsStay b day chosen (record { kept = k.codes; car = car })
  pub left : k.left.items ≡ left_out chosen k.codes.items
  pub change : IsChange b day k.codes.items k.change

-- no car can be ordered on the day at all
pub record IsVoid (b : Contents) (day : ℕ) (chosen : List ℕ) (budget : ℕ) (m : Blamed) : Type 0 where
  pub void : (x : List Bool) → is_good b day x ≡ false
  pub clash : AreBlamed b day chosen always budget m

abbrev pub IsRepair : Contents → ℕ → List ℕ → ℕ → Bool → Repair → Type 0
IsRepair b day chosen budget accepted NotNeeded = accepted ≡ true
IsRepair b day chosen budget accepted (Undecided learnt) = (accepted ≡ false) × IsLeftWith b day chosen budget learnt.clauses
IsRepair b day chosen budget accepted (NoOrder m) = (accepted ≡ false) × IsVoid b day chosen budget m
IsRepair b day chosen budget accepted (Keep k) = (accepted ≡ false) × IsKept b day chosen budget k

-- the kept codes with the added ones are accepted; each car of a book that can be released can be built
abbrev pub IsMendedBy : Contents → ℕ → List ℕ → Change → Type 0
IsMendedBy b day kept (Add added) = is_accepted b day (names_at b.codes kept ++ added.items) ≡ true
IsMendedBy b day kept (Unfit x unfit) = IsReleasable b → ⊥

-- such a book has a car on each day of its term
abbrev pub IsMended : Contents → ℕ → Repair → Type 0
IsMended b day NotNeeded = Unit {0}
IsMended b day (Undecided learnt) = Unit {0}
IsMended b day (NoOrder m) = IsReleasable b → ⊥
IsMended b day (Keep k) = IsMendedBy b day k.codes.items k.change

abbrev pub accepts : Outcome → Bool
accepts (Accepted set list) = true
accepts (Refused rule) = false
accepts (UnfitOutcome position count) = false

pub record IsAnswer (b : Contents) (day : ℕ) (names : List (List ℕ)) (budget : ℕ) (a : WhyAnswer) : Type 0 where
  pub faultless : order_fault b day names ≡ None
  pub added : a.added ≡ (completion_of b day (named b.codes names)).added
  pub outcome : outcome_of b day names ≡ Ok a.outcome
  pub repair : IsRepair b day (places_of b.codes names) budget (accepts a.outcome) a.repair
  pub mends : IsMended b day a.repair
