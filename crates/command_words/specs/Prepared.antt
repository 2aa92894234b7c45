-- The words that are handed to the option parser, without the `--` that ends the options.
--     prepared words    the words that the parser is given, or None where they are of no form
use Rattle.std.specs.Prelude.{◌++◌, ◌==◌, ◌&&◌, ℕ, Bool, false, List, [], ◌∷◌, Option, None, Some, String, map, string_bytes, if◌then◌else◌}
use Rattle.std.specs.Borrow.{Bor}
use Rattle.std.specs.declared.alloc.Global.{Global}
use Rattle.std.specs.Option.{option_map}
use Rattle.std.specs.List.{list_all}
use Rattle.pb_base.specs.Names.{same_name}
use Rattle.command_words.specs.Parts.{Words, is_plain, dashes, budget_word}

-- the plain words in front, and what stands behind them
abbrev pub plain_front : Words → Words
plain_front [] = []
plain_front (word ∷ words) = if is_plain word then word ∷ plain_front words else []

abbrev pub behind_plain : Words → Words
behind_plain [] = []
behind_plain (word ∷ words) = if is_plain word then behind_plain words else word ∷ words

-- a word that begins with `-`, and one that begins with `--`
abbrev pub is_dashed : List ℕ → Bool
is_dashed [] = false
is_dashed (b ∷ bs) = b == 45

abbrev pub is_long : List ℕ → Bool
is_long [] = false
is_long (b ∷ bs) = (b == 45) && is_dashed bs

-- plain words alone, behind `--`
abbrev pub last_words : Words → Option Words
last_words words = if list_all is_plain words then Some words else None

-- the words from the `--` that ends the options, if there is one
abbrev pub ended : Words → Option Words
ended [] = Some []
ended (word ∷ words) = if same_name word dashes then last_words words else None

abbrev pub to_end : Words → Option Words
to_end words = option_map (λ more. plain_front words ++ more) (ended (behind_plain words))

-- a `--` just behind `--budget` takes its value from it

abbrev pub is_cut_short : List ℕ → Words → Bool
is_cut_short option [] = false
is_cut_short option (word ∷ words) = same_name option budget_word && same_name word dashes

abbrev pub with_option : List ℕ → Words → Option Words
with_option option words =
    if is_cut_short option words then None
    else option_map (λ more. option ∷ more) (to_end words)

abbrev pub from_option : Words → Option Words
from_option [] = Some []
from_option (word ∷ words) =
    if same_name word dashes then last_words words
    else (if is_long word then with_option word words else None)

abbrev pub prepared_behind : Words → Option Words
prepared_behind words = option_map (λ more. plain_front words ++ more) (from_option (behind_plain words))

abbrev pub prepared : Words → Option Words
prepared [] = None
prepared (name ∷ words) = if is_plain name then prepared_behind (name ∷ words) else None

-- the bytes of some words, owned or lent
abbrev pub texts_of : List (String Global) → Words
texts_of = map string_bytes

abbrev pub lent : List (Bor (List ℕ)) → Words
lent = map (λ word. word.now)

-- the words that were put together, where they are of a form
abbrev pub if_done : Bool → Words → Option Words
if_done done words = if done then Some words else None

abbrev pub lent_option : Option (Bor (List ℕ)) → Option (List ℕ)
lent_option = option_map (λ word. word.now)
