-- What a keeper holds of its file, so that it need not be read again.
use Rattle.std.specs.Prelude.{◌≡◌, ℕ, List, Option, Some, None}
use Rattle.std.specs.Global.{Vec}
use Rattle.journal_keeper.specs.declared.stage.Stage.{Stage}
use Rattle.disk.specs.Disk.{WhereTold}
use Rattle.journal_keeper.specs.Stage.{settled}
use Rattle.journal_keeper.specs.Sound.{IsSound}

-- what is held is all of the file, and no gate is in doubt
abbrev pub Holds : Option (Vec ℕ) → Stage → Option (List ℕ) → Type 0
Holds None stage content = Unit {0}
Holds (Some held) stage content = (settled stage ≡ stage) × WhereTold content (λ file. held.items ≡ file)

-- what is so between two calls of a keeper
pub record IsKept (held : Option (Vec ℕ)) (stage : Stage) (content : Option (List ℕ)) (leaves : List ℕ → Type 0) : Type 0 where
  pub sound : IsSound stage content leaves
  pub holds : Holds held stage content
