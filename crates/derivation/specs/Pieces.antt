-- A text in pieces: lines, each ended by a line feed, and words, parted by one space.
--     pieces 10 text    the lines of a text, and last the piece behind the last line feed
--     pieces 32 line    the words of a line; a space too many shows as an empty word
use Rattle.std.specs.Prelude.{◌≡◌, ◌≢◌, ◌<◌, ◌≤◌, ℕ, Bool, List, [], ◌==◌, length, slice_index, if◌then◌else◌}
use Rattle.std.specs.List.{slice_split}

abbrev pub pieces : ℕ → List ℕ → List (List ℕ)
pieces separator text = slice_split (λ b. b == separator) text

-- the pieces that are still to be given
abbrev pub pieces_left : Bool → ℕ → List ℕ → List (List ℕ)
pieces_left done separator rest = if done then [] else pieces separator rest

-- the first piece of a text ends here: before the first separator, or with the text
pub record EndsPiece (separator : ℕ) (text : List ℕ) (end : ℕ) : Type 0 where
  pub within : end ≤ length text
  pub before : (k : ℕ) → k < end → slice_index text k ≢ separator
  pub found : end < length text → slice_index text end ≡ separator
