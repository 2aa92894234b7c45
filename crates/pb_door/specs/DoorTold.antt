-- What a door tells, and what its calls do to that.
use Rattle.std.specs.Prelude.{◌≡◌, ℕ, Bool, nat_lt, List, map, if◌then◌else◌}
use Rattle.std.specs.List.{list_any}
use Rattle.pb_outside.specs.Faults.{Faults, raised}
use Rattle.pb_door.specs.PortTold.{PortTold, numbers_below}

-- lent: how many ports are out; back: the ports that were handed back last, each as it then stood
pub record DoorTold : Type 0 where
  pub lent : ℕ
  pub back : List PortTold
  pub faults : ℕ

-- its faults, where it says whether any call on it or on a port fails from here on
abbrev pub faults_of : DoorTold → Bool → Faults
faults_of d faultless = record { count = d.faults; faultless = faultless }

-- so many ports were given
abbrev pub lends : ℕ → DoorTold → DoorTold
lends workers d = record { lent = workers; back = d.back; faults = d.faults }

-- nothing but the count of faults is another
abbrev pub counts : ℕ → DoorTold → DoorTold
counts faults d = record { lent = d.lent; back = d.back; faults = faults }

-- these are all the ports that are out, in their order
abbrev pub AreLent : DoorTold → List PortTold → Type 0
AreLent d ports = map (λ p. p.number) ports ≡ numbers_below d.lent

abbrev pub has_failed : PortTold → Bool
has_failed p = nat_lt 0 p.faults

-- one fault more where one of the ports has failed
abbrev pub faults_with : List PortTold → ℕ → ℕ
faults_with ports faults = if list_any has_failed ports then raised faults else faults

-- the ports were handed back
abbrev pub takes_back : List PortTold → DoorTold → DoorTold
takes_back ports d = record { lent = 0; back = ports; faults = faults_with ports d.faults }
