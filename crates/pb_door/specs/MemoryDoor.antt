-- A door in memory.
use Rattle.std.specs.Prelude.{ℕ, zero, suc, Bool, ◌&&◌, List, [], ◌∷◌, ◌++◌, map}
use Rattle.std.specs.List.{list_all}
use Rattle.pb_outside.specs.FaultPlan.{Plan, is_over}
use Rattle.pb_outside.specs.MemoryLink.{Exchange}
use Rattle.pb_door.specs.DoorTold.{DoorTold}
use Rattle.pb_door.specs.MemoryPort.{PortState, told_by as port_told_by}

-- links: those of each port that is still to be given; fails: the calls that are to fail on each of these ports; plan: the
-- calls of the door that are to fail; lent, back: as the door tells
pub record DoorState : Type 0 where
  pub links : List (List Exchange)
  pub fails : List (List ℕ)
  pub plan : Plan
  pub lent : ℕ
  pub back : List PortState

abbrev pub told_by : DoorState → DoorTold
told_by d = record { lent = d.lent; back = map port_told_by d.back; faults = d.plan.faults }

-- calls of these numbers are to fail, and none was made
abbrev pub plan_of : List ℕ → Plan
plan_of fails = record { fails = fails; next_call = 0; faults = 0 }

abbrev pub are_faultless : List (List ℕ) → Bool
are_faultless fails = list_all (λ numbers. is_over (plan_of numbers)) fails

-- no call fails from here on, on the door or on a port that it gives
abbrev pub is_faultless : DoorState → Bool
is_faultless d = is_over d.plan && are_faultless d.fails

abbrev pub first_of : {X : Type 0} → List (List X) → List X
first_of [] = []
first_of (xs ∷ lists) = xs

abbrev pub rest_of : {X : Type 0} → List (List X) → List (List X)
rest_of [] = []
rest_of (xs ∷ lists) = lists

-- without the first lists, so many
abbrev pub rest_after : {X : Type 0} → ℕ → List (List X) → List (List X)
rest_after zero lists = lists
rest_after (suc n) lists = rest_of (rest_after n lists)

-- the first lists, so many, with empty ones where there are too few
abbrev pub lists_below : {X : Type 0} → ℕ → List (List X) → List (List X)
lists_below zero lists = []
lists_below (suc n) lists = lists_below n lists ++ first_of (rest_after n lists) ∷ []
