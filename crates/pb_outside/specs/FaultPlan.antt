-- Which calls of an object in memory are to fail, by their numbers from 0.
use Rattle.std.specs.Prelude.{ℕ, Bool, List, ◌==◌, nat_lt, if◌then◌else◌}
use Rattle.std.specs.List.{list_any, list_all}
use Rattle.pb_outside.specs.Faults.{Faults, raised}

-- the numbers of the calls that are to fail, the number of the next call, and the count of faults
pub record Plan : Type 0 where
  pub fails : List ℕ
  pub next_call : ℕ
  pub faults : ℕ

-- the next call is to fail: its number is among the given ones
abbrev pub is_to_fail : Plan → Bool
is_to_fail p = list_any (λ number. number == p.next_call) p.fails

-- no call fails from here on: the numbers of those that are to fail have passed
abbrev pub is_over : Plan → Bool
is_over p = list_all (λ number. nat_lt number p.next_call) p.fails

-- what an object with this plan tells of its faults, where nothing but the plan makes a call fail
abbrev pub faults_of : Plan → Faults
faults_of p = record { count = p.faults; faultless = is_over p }

-- one fault more
abbrev pub with_fault : Plan → Plan
with_fault p = record { fails = p.fails; next_call = p.next_call; faults = raised p.faults }

-- after the next call has begun; where it is to fail, that is a fault
abbrev pub after_call : Plan → Plan
after_call p = record { fails = p.fails; next_call = raised p.next_call; faults = if is_to_fail p then raised p.faults else p.faults }
