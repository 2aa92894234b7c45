-- What the contract of blame says to its reader.
use Rattle.std.proofs.Common.{ℕ, List}
use Rattle.std.specs.List.{remove}
use Rattle.pb_base.specs.Rule.{Rule}
use Rattle.book_model.specs.Contents.{Contents}
use Rattle.blame.specs.Blame.{IsTold}
use Rattle.blame.specs.declared.blamed.Told.{Told}
use Rattle.blame.specs.declared.blamed.Told.TheVariants.{Car, NoCar, Undecided}
use Rattle.car_guards.specs.Blamed.{HidesNoCar, LeavesNone, NeededAreNeeded, OthersWereSearched}

module _ (b : Contents) (day : ℕ) (chosen : List ℕ) (f : Rule) (budget : ℕ) where
  pub hides_none : (told : Told) → IsTold b day chosen f budget told → HidesNoCar b day chosen f told
  hides_none (Car x) h = tt
  hides_none (NoCar m) h = λ x good kept. h.no_car x good kept
  hides_none (Undecided learnt) h = tt

  pub leaves_none : (told : Told) → IsTold b day chosen f budget told → LeavesNone b day f told
  leaves_none (Car x) h = tt
  leaves_none (NoCar m) h = λ x counted meets. h.blame.none x counted meets
  leaves_none (Undecided learnt) h = tt

  pub needed_are : (told : Told) → IsTold b day chosen f budget told → NeededAreNeeded b day f told
  needed_are (Car x) h = tt
  needed_are (NoCar m) h = λ place within needed.
      let found = h.blame.each place within needed in
      record { set = found.0; counted = found.1.counted; meets = found.1.meets; holds_there = found.1.holds_there }
  needed_are (Undecided learnt) h = tt

  pub others_were : (told : Told) → IsTold b day chosen f budget told → OthersWereSearched b day f budget told
  others_were (Car x) h = tt
  others_were (NoCar m) h = λ place within needed.
      let found = h.blame.left place within needed in
      record { others = remove found.before found.at; among = found.others; left = found.left }
  others_were (Undecided learnt) h = tt
