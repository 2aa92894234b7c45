-- What a port of a door tells, and what its calls do to that.
--     new_ports links workers    what the ports tell that a door gives to so many workers for so many links
--     numbers_below n            the numbers of n ports, in order
use Rattle.std.specs.Prelude.{ℕ, zero, suc, ◌+◌, ◌-◌, ◌/◌, ◌%◌, Bool, true, false, nat_lt, List, [], ◌∷◌, ◌++◌, if◌then◌else◌}
use Rattle.pb_outside.specs.Faults.{Faults}
use Rattle.pb_door.specs.LinkTold.{LinkTold}

-- number: which of the door's ports it is, from 0; left: how many more links it gives at most; given: the links that it
-- gave, each as it stood then; ended: the links that were handed back, each as it then stood; out: a link is out;
-- over: it gives no more
pub record PortTold : Type 0 where
  pub number : ℕ
  pub left : ℕ
  pub given : List LinkTold
  pub ended : List LinkTold
  pub out : Bool
  pub over : Bool
  pub faults : ℕ

-- its faults, where it says whether any call fails from here on
abbrev pub faults_of : PortTold → Bool → Faults
faults_of p faultless = record { count = p.faults; faultless = faultless }

-- a link was given
abbrev pub gives : LinkTold → PortTold → PortTold
gives link p = record { number = p.number; left = p.left - 1; given = p.given ++ link ∷ []; ended = p.ended; out = true; over = p.over; faults = p.faults }

-- there is no more link to give
abbrev pub closes : PortTold → PortTold
closes p = record { number = p.number; left = p.left; given = p.given; ended = p.ended; out = p.out; over = true; faults = p.faults }

-- the link that was out was handed back
abbrev pub ends : LinkTold → PortTold → PortTold
ends link p = record { number = p.number; left = p.left; given = p.given; ended = p.ended ++ link ∷ []; out = false; over = p.over; faults = p.faults }

-- nothing but the count of faults is another
abbrev pub counts : ℕ → PortTold → PortTold
counts faults p = record { number = p.number; left = p.left; given = p.given; ended = p.ended; out = p.out; over = p.over; faults = faults }

-- how many of the links a port gives at most: as many as each other, and the first ones one more where they don't divide
abbrev pub share_of : ℕ → ℕ → ℕ → ℕ
share_of links workers number = links / workers + (if nat_lt number (links % workers) then 1 else 0)

-- a port of which nothing was asked yet
abbrev pub new_port : ℕ → ℕ → PortTold
new_port number left = record { number = number; left = left; given = []; ended = []; out = false; over = false; faults = 0 }

abbrev pub ports_below : ℕ → ℕ → ℕ → List PortTold
ports_below links workers zero = []
ports_below links workers (suc n) = ports_below links workers n ++ new_port n (share_of links workers n) ∷ []

abbrev pub new_ports : ℕ → ℕ → List PortTold
new_ports links workers = ports_below links workers workers

abbrev pub numbers_below : ℕ → List ℕ
numbers_below zero = []
numbers_below (suc n) = numbers_below n ++ n ∷ []
