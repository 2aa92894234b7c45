-- What is told of a rule, as its reader takes it. f is the rule.
--     HidesNoCar b day chosen f told    where no car is told, no good set that has the codes meets the rule
--     LeavesNone b day f told           no set meets all that is blamed, and the rule
--     NeededAreNeeded b day f told      without what is called needed some set does
--     OthersWereSearched b day f budget told    without any other entry a search for one was left
use Rattle.std.specs.Prelude.{◌≡◌, ℕ, ◌<◌, Bool, true, false, List, length}
use Rattle.std.specs.List.{list_all, remove}
use Rattle.pb_base.specs.Rule.{Rule, holds}
use Rattle.pb_base.specs.Sets.{has}
use Rattle.book_model.specs.Contents.{Contents}
use Rattle.book_model.specs.Good.{is_good}
use Rattle.blame.specs.Blame.{IsLeftFor}
use Rattle.blame.specs.Entries.{meets_all, Among}
use Rattle.blame.specs.declared.entries.Entry.{Entry}
use Rattle.blame.specs.declared.blamed.Told.{Told}
use Rattle.blame.specs.declared.blamed.Told.TheVariants.{Car, NoCar, Undecided}

abbrev pub HidesNoCar : Contents → ℕ → List ℕ → Rule → Told → Type 0
HidesNoCar b day chosen f (Car x) = Unit {0}
HidesNoCar b day chosen f (NoCar m) = (x : List Bool) → is_good b day x ≡ true → list_all (has x) chosen ≡ true → holds f x ≡ false
HidesNoCar b day chosen f (Undecided learnt) = Unit {0}

abbrev pub LeavesNone : Contents → ℕ → Rule → Told → Type 0
LeavesNone b day f (Car x) = Unit {0}
LeavesNone b day f (NoCar m) = (x : List Bool) → length x ≡ length b.codes → meets_all b day x m.entries.items ≡ true → holds f x ≡ false
LeavesNone b day f (Undecided learnt) = Unit {0}

pub record MeetsOthers (b : Contents) (day : ℕ) (f : Rule) (m : List Entry) (place : ℕ) : Type 0 where
  pub set : List Bool
  pub counted : length set ≡ length b.codes
  pub meets : meets_all b day set (remove m place) ≡ true
  pub holds_there : holds f set ≡ true

abbrev pub NeededAreNeeded : Contents → ℕ → Rule → Told → Type 0
NeededAreNeeded b day f (Car x) = Unit {0}
NeededAreNeeded b day f (NoCar m) =
    (place : ℕ) → place < length m.entries.items → has m.needed.items place ≡ true → MeetsOthers b day f m.entries.items place
NeededAreNeeded b day f (Undecided learnt) = Unit {0}

-- among the others of those that were kept then are all others that are blamed
pub record WasSearched (b : Contents) (day : ℕ) (f : Rule) (budget : ℕ) (m : List Entry) (place : ℕ) : Type 0 where
  pub others : List Entry
  pub among : Among others (remove m place)
  pub left : IsLeftFor b day f others budget

abbrev pub OthersWereSearched : Contents → ℕ → Rule → ℕ → Told → Type 0
OthersWereSearched b day f budget (Car x) = Unit {0}
OthersWereSearched b day f budget (NoCar m) =
    (place : ℕ) → place < length m.entries.items → has m.needed.items place ≡ false → WasSearched b day f budget m.entries.items place
OthersWereSearched b day f budget (Undecided learnt) = Unit {0}
