-- A disk: what its calls do to the file on it, and what a stop at a moment may leave of the file.
--     Torn, IsCutOrNot    what a stop in a write, and in a cut, may make of a file
--     Overwrites          what a write that a later sync has made last makes of an image
--     Follows             the images that may be left change by such a step
--     Elapses             time goes on by one call
--     LeavesOnly          a stop at any moment of some calls leaves an image with a property
use Rattle.std.specs.Prelude.{◌≡◌, ◌⊎◌, ℕ, ◌+◌, ◌≤◌, max, List, ◌++◌, length, take, drop, Option, Some, None, Result, Err, OnOk}
use Rattle.pb_outside.specs.Faults.{Rose}
use Rattle.pb_outside.specs.declared.error.OutError.{OutError}
use Rattle.pb_outside.specs.declared.error.OutError.TheVariants.{Failed}

-- the file with these bytes written at this place, over what was there and past its end
abbrev pub overwritten : ℕ → List ℕ → List ℕ → List ℕ
overwritten at bytes file = take at file ++ bytes ++ drop (at + length bytes) file

-- a write of n bytes at a place that came to anything: the range and what is past the old end may hold any bytes and
-- may be short, and every other byte is as it was
pub record Torn (at n : ℕ) (old new : List ℕ) : Type 0 where
  pub before : take at new ≡ take at old
  pub after : drop (at + n) new ≡ drop (at + n) old
  pub no_shorter : length old ≤ length new
  pub no_longer : length new ≤ max (length old) (at + n)

-- these bytes stand at this place, over what was there, where the image reached so far
abbrev pub Overwrites : ℕ → List ℕ → List ℕ → List ℕ → Type 0
Overwrites at bytes old new = at ≤ length old → new ≡ overwritten at bytes old

-- a cut to n bytes that was made
abbrev pub IsCut : ℕ → List ℕ → List ℕ → Type 0
IsCut n old new = new ≡ take n old

-- a cut to n bytes that was made or not
abbrev pub IsCutOrNot : ℕ → List ℕ → List ℕ → Type 0
IsCutOrNot n old new = (new ≡ old) ⊎ (new ≡ take n old)

-- the content, where it is told, has P
abbrev pub WhereTold : Option (List ℕ) → (List ℕ → Type 0) → Type 0
WhereTold content P = (file : List ℕ) → content ≡ Some file → P file

-- a step leads from what was told to what is told
abbrev pub Becomes : (List ℕ → List ℕ → Type 0) → Option (List ℕ) → Option (List ℕ) → Type 0
Becomes step None new = new ≡ None
Becomes step (Some file) new = (file' : List ℕ) × (new ≡ Some file') × step file file'

-- the image comes by a step from one that could be left before
abbrev pub AfterStep : (List ℕ → List ℕ → Type 0) → (List ℕ → Type 0) → List ℕ → Type 0
AfterStep step before image = (earlier : List ℕ) × before earlier × step earlier image

-- each image that may be left now comes by a step from one that could be left before
abbrev pub Follows : (List ℕ → List ℕ → Type 0) → (List ℕ → Type 0) → (List ℕ → Type 0) → Type 0
Follows step before now = (image : List ℕ) → now image → AfterStep step before image

-- this is the only image that may be left
abbrev pub Only : List ℕ → (List ℕ → Type 0) → Type 0
Only file leaves = (image : List ℕ) → leaves image → image ≡ file

-- Time goes on by a call: an image of a moment from t on is one of a moment before the call, or may be left now.
pub record Elapses (before now : ℕ) (past since : ℕ → List ℕ → Type 0) (leaves : List ℕ → Type 0) : Type 0 where
  pub later : before ≤ now
  pub nothing_else : (t : ℕ) (image : List ℕ) → t ≤ before → since t image → past t image ⊎ leaves image
  pub keeps : (t : ℕ) (image : List ℕ) → t ≤ before → past t image → since t image

-- A stop at any moment of the calls that led from old to new leaves an image that has P.
pub record LeavesOnly {D : Type 0} (moment : D → ℕ) (left_since : D → ℕ → List ℕ → Type 0) (old new : D) (P : List ℕ → Type 0) : Type 0 where
  pub later : moment old ≤ moment new
  pub each : (image : List ℕ) → left_since new (moment old) image → P image
  -- for calls that began earlier
  pub before : (t : ℕ) (image : List ℕ) → t ≤ moment old → left_since new t image → left_since old t image ⊎ P image

-- a success counts no fault, a failure has its cause in the count, and the count never falls
pub record CountsFaults {T : Type 0} (result : Result T OutError) (before after : ℕ) : Type 0 where
  pub stays : OnOk result (after ≡ before)
  pub cause : result ≡ Err Failed → Rose before after
  pub later : before ≤ after
