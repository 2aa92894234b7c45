-- Files in memory.
use Rattle.std.specs.Prelude.{ℕ, List, Some, Bool, ◌||◌, ◌&&◌, not, is_none, if◌then◌else◌}
use Rattle.pb_outside.specs.FaultPlan.{Plan, is_to_fail, after_call, with_fault, faults_of}
use Rattle.pb_outside.specs.Files.{NamedBytes, FilesTold, content_of}

-- the files, and the calls that are to fail
pub record Shelf : Type 0 where
  pub files : List NamedBytes
  pub plan : Plan

-- what it tells; a call for a file that is not there fails all the same
abbrev pub told_by : Shelf → FilesTold
told_by s = record { files = Some s.files; faults = faults_of s.plan }

-- the next call for a file of this name fails: it is to fail, or there is no such file
abbrev pub refuses : Shelf → List ℕ → Bool
refuses s name = is_to_fail s.plan || is_none (content_of s.files name)

-- after a call for a file of this name
abbrev pub after_call_for : Shelf → List ℕ → Shelf
after_call_for s name = record { files = s.files; plan = if not (is_to_fail s.plan) && is_none (content_of s.files name) then with_fault (after_call s.plan) else after_call s.plan }
