-- What a search for the end of a head knows.
use Rattle.std.specs.Prelude.{◌≡◌, ◌≤◌, ℕ, List, ◌++◌, None, length, take, drop}
use Rattle.http_wire.specs.declared.front.Front.{Front}
use Rattle.http_wire.specs.Front.{skipped_bytes, block_length, front}

-- of the first bytes, so many, the line ends in front are counted, and no head ends in them
pub record IsSearched (in_front seen : ℕ) (held : List ℕ) : Type 0 where
  pub within : seen ≤ length held
  pub skipped : in_front ≡ skipped_bytes (take seen held)
  pub no_end : block_length (drop in_front (take seen held)) ≡ None

-- whatever follows what is held, this stands at the front
abbrev pub IsFront : List ℕ → Front → Type 0
IsFront held found = (more : List ℕ) → front (held ++ more) ≡ found
