-- What a contract sees of a keeper.
--     rows_told content k     the rows that a keeper tells, where its disk tells its content
--     counted failures k      what it counts
use Rattle.std.specs.Prelude.{◌≡◌, ℕ, false, List, Option, Result}
use Rattle.std.specs.Option.{option_map}
use Rattle.pb_outside.specs.Faults.{Faults}
use Rattle.pb_outside.specs.declared.error.OutError.{OutError}
use Rattle.keeper.specs.Rows.{Kept}
use Rattle.disk.specs.Disk.{WhereTold, LeavesOnly}
use Rattle.journal_keeper.specs.Counts.{Refuses, count_of}
use Rattle.journal_keeper.specs.Record.{Entry}
use Rattle.journal_keeper.specs.Stage.{DoubtsOnly, StandsOrGrew, StillStands, doubted, is_open, is_refused, seen_by}
use Rattle.journal_keeper.specs.declared.stage.Stage.{Stage}

-- the disk, how far the keeper has come with it, and how many puts it has refused
pub record Keeping (D : Type 0) : Type 0 where
  pub disk : D
  pub stage : Stage
  pub refusals : ℕ

abbrev pub rows_told : {D : Type 0} → (D → Option (List ℕ)) → Keeping D → Option Kept
rows_told content k = option_map (seen_by k.stage) (content k.disk)

abbrev pub counted : {D : Type 0} → (D → ℕ) → Keeping D → Faults
counted failures k = count_of (failures k.disk) k.refusals

-- What a put of an entry does beside what any keeper answers: what a stop in it leaves, and until the next call; which gate is
-- in doubt; that it touches no disk that isn't open; and where it is refused.
pub record PutsEntry {D T : Type 0} (content : D → Option (List ℕ)) (may_leave : D → List ℕ → Type 0) (moment : D → ℕ) (left_since : D → ℕ → List ℕ → Type 0)
    (failures : D → ℕ) (result : Result T OutError) (entry : Entry) (old new : Keeping D) : Type 0 where
  pub any_moment : WhereTold (content old.disk) (λ file. LeavesOnly moment left_since old.disk new.disk (StandsOrGrew entry old.stage file))
  pub stands : WhereTold (content new.disk) (λ file. (image : List ℕ) → may_leave new.disk image → StillStands new.stage file image)
  pub doubt : DoubtsOnly result entry (doubted old.stage (content old.disk)) (doubted new.stage (content new.disk))
  pub stays_open : is_open new.stage ≡ is_open old.stage
  pub untouched : is_open old.stage ≡ false → new.disk ≡ old.disk
  pub refuses : Refuses result (is_refused old.stage entry) (failures old.disk) (failures new.disk) old.refusals new.refusals
