-- The words behind `ask`, among which a rule may begin with `-`.
--     short_front words, behind_short words    the words in front that don't begin with `--`, and what stands behind them
--     option_value option words                the value of the option, and the words behind it
--     operands_of words                        words without an option
-- Before the first `--` a word that begins with `--` has to be the one option. Behind it each word is an operand.
use Rattle.std.specs.Prelude.{◌++◌, ℕ, List, [], ◌∷◌, Option, None, Some, codes, drop, take, if◌then◌else◌}
use Rattle.std.specs.Option.{option_map}
use Rattle.pb_base.specs.Names.{same_name}
use Rattle.command_words.specs.Parts.{Words, budget_word, dashes}
use Rattle.command_words.specs.Prepared.{is_long}

abbrev pub short_front : Words → Words
short_front [] = []
short_front (word ∷ words) = if is_long word then [] else word ∷ short_front words

abbrev pub behind_short : Words → Words
behind_short [] = []
behind_short (word ∷ words) = if is_long word then word ∷ words else behind_short words

-- all words behind the `--` that ends the options, if there is one
abbrev pub behind_end : Words → Option Words
behind_end [] = Some []
behind_end (word ∷ words) = if same_name word dashes then Some words else None

-- words without an option
abbrev pub operands_of : Words → Option Words
operands_of words = option_map (λ further. short_front words ++ further) (behind_end (behind_short words))

-- the value of the option, which may be the next word, and the words behind it
abbrev pub next_word : Words → Option (List ℕ × Words)
next_word [] = None
next_word (word ∷ words) = Some (word, words)

abbrev pub attached_value : List ℕ → Option (List ℕ)
attached_value option = if same_name (take 9 option) (codes "--budget=") then Some (drop 9 option) else None

abbrev pub option_value : List ℕ → Words → Option (List ℕ × Words)
option_value option words =
    if same_name option budget_word then next_word words else option_map (λ value. (value, words)) (attached_value option)
