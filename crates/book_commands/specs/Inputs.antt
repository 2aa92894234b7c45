-- What a command reads from: the source of a run, and its files.
use Rattle.std.specs.Prelude.{◌≡◌, ℕ, ◌+◌, List}
use Rattle.pb_base.specs.declared.limits.TheConstants.{MOST_TEXT_BYTES}
use Rattle.pb_outside.specs.Faults.{Fails}
use Rattle.pb_outside.specs.Source.{SourceTold, ReadsUpTo, LosesFront}
use Rattle.pb_outside.specs.Files.{FilesTold}

pub record Inputs : Type 0 where
  pub source : SourceTold
  pub files : FilesTold

abbrev pub inputs : SourceTold → FilesTold → Inputs
inputs source files = record { source = source; files = files }

-- one byte more than a book's text may have shows that it is too large
abbrev pub input_limit : ℕ
input_limit = MOST_TEXT_BYTES + 1

-- this input was read: all of what was left, or so much of it
pub record ReadsInput (before after : SourceTold) (input : List ℕ) : Type 0 where
  pub text : ReadsUpTo input_limit before.left after.left input
  pub count : after.faults.count ≡ before.faults.count

-- the source failed, and at most so much is gone
pub record FailsAtInput (before after : SourceTold) : Type 0 where
  pub fault : Fails before.faults after.faults
  pub front : LosesFront input_limit before.left after.left
