-- The option of several workers among the words.
--     is_workers word         `--workers`, or `--workers=..`
--     workers_place words     the place of the first such word behind the first word and before `--`
--     is_value words place    the word stands just behind `--budget`, so that it isn't an option
--     workers_value words     the value of the option with which these words begin, and the words behind it
use Rattle.std.specs.Prelude.{◌||◌, ◌+◌, ◌-◌, ℕ, Bool, false, List, [], ◌∷◌, Option, None, Some, codes, drop, slice_get, take, if◌then◌else◌}
use Rattle.std.specs.Option.{option_map_or}
use Rattle.pb_base.specs.Names.{same_name}
use Rattle.command_words.specs.AskWords.{next_word}
use Rattle.command_words.specs.Parts.{Words, budget_word, dashes}

abbrev pub workers_word : List ℕ
workers_word = codes "--workers"

abbrev pub is_workers : List ℕ → Bool
is_workers word = same_name word workers_word || same_name (take 10 word) (codes "--workers=")

abbrev pub workers_from : ℕ → Words → Option ℕ
workers_from at [] = None
workers_from at (word ∷ words) = if is_workers word then Some at else (if same_name word dashes then None else workers_from (at + 1) words)

abbrev pub workers_place : Words → Option ℕ
workers_place [] = None
workers_place (name ∷ words) = workers_from 1 words

abbrev pub is_value : Words → ℕ → Bool
is_value words place = option_map_or (λ word. same_name word budget_word) (slice_get words (place - 1)) false

abbrev pub workers_value : Words → Option (List ℕ × Words)
workers_value [] = None
workers_value (word ∷ words) = if same_name word workers_word then next_word words else Some (drop 10 word, words)
