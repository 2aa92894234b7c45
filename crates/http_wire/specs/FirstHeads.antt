-- A head that is read where it begins.
use Rattle.std.specs.Prelude.{◌≡◌, ℕ, List, ◌++◌, Some, take}
use Rattle.http_wire.specs.Front.{block_length}
use Rattle.http_wire.specs.Items.{ReadsHead}
use Rattle.http_wire.specs.Reading.{ReadsBlock}
use Rattle.http_wire.specs.declared.head.HeadStep.{HeadStep}
use Rattle.http_wire.specs.declared.reading.FirstHead.{FirstHead}

-- the first block is so long, and comes to this
abbrev pub IsFirstHead : List ℕ → FirstHead → Type 0
IsFirstHead s first = (block_length s ≡ Some first.length) × ReadsBlock (take first.length s) first.step

-- whatever follows what is held, this comes next
abbrev pub ReadsHeld : HeadStep → List ℕ → List ℕ → Type 0
ReadsHeld step held held' = (more : List ℕ) → ReadsHead step (held ++ more) (held' ++ more)
