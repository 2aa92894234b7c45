-- The grammar that the option parser is given, and what it reads by it: behind each command word stand operands with at most one
-- option among them.
--     is_tame words     whether the words are plain, but for at most one that begins with `--`
--     taken words       the budget and the operands among such words behind the command word
use Rattle.std.specs.Prelude.{◌++◌, ◌&&◌, ℕ, Bool, true, false, not, List, [], ◌∷◌, Option, None, Some, codes, if◌then◌else◌}
use Rattle.std.specs.Option.{option_map, option_and_then, unwrap_or}
use Rattle.std.specs.List.{list_all}
use Rattle.std.specs.Str.{bytes_eq}
use Rattle.clap.specs.Lexer.{long_of}
use Rattle.clap.specs.Words.{App, Row, Rule, all_of, first_of, new_rule, with_rule}
use Rattle.clap.specs.Simple.{new_shape}
use Rattle.clap.specs.declared.builder.action.ArgAction.TheVariants.{Append}
use Rattle.command_words.specs.Meaning.{asked}
use Rattle.command_words.specs.declared.task.Task.{Task}
use Rattle.command_words.specs.Parts.{Words, is_plain, dashes}
use Rattle.command_words.specs.Prepared.{is_long, plain_front, behind_plain}

abbrev pub budget_rule : Rule
budget_rule = record (new_rule (codes "budget")) { long = Some (codes "budget") }

abbrev pub operands_rule : Rule
operands_rule = record (new_rule (codes "operands")) { action = Some Append }

-- the words are those behind the command word, and none of them names a subcommand
abbrev pub bare : App
bare = record {
  top = record (new_shape (codes "partsbook")) {
    no_binary_name = true;
    disable_help_flag = true;
    disable_version_flag = true;
  };
  subs = [];
}

abbrev pub grammar : App
grammar = with_rule (with_rule bare budget_rule) operands_rule

abbrev pub is_tame_option : Words → Bool
is_tame_option [] = true
is_tame_option (word ∷ words) = is_long word && not (bytes_eq word dashes) && list_all is_plain words

abbrev pub is_tame : Words → Bool
is_tame words = is_tame_option (behind_plain words)

-- the value of an option, which may be the next word
abbrev pub value_in : Option (List ℕ) → Words → Option (Option (List ℕ) × Words)
value_in (Some text) words = Some (Some text, words)
value_in None [] = None
value_in None (text ∷ words) = Some (Some text, words)

abbrev pub budget_in : Option (List ℕ × Option (List ℕ)) → Words → Option (Option (List ℕ) × Words)
budget_in None words = None
budget_in (Some option) words = if bytes_eq (codes "budget") option.0 then value_in option.1 words else None

abbrev pub option_in : Words → Option (Option (List ℕ) × Words)
option_in [] = Some (None, [])
option_in (word ∷ words) = budget_in (long_of word) words

abbrev pub taken : Words → Option (Option (List ℕ) × Words)
taken words = option_map (λ p. (p.0, plain_front words ++ p.1)) (option_in (behind_plain words))

-- a command word and the words behind it ask for the task, as the parser reads these
abbrev pub parsed_behind : List ℕ → Words → Option Task
parsed_behind name words = option_and_then (λ p. asked name p.0 p.1) (taken words)

abbrev pub parsed : Words → Option Task
parsed [] = None
parsed (name ∷ words) = parsed_behind name words

-- a command word, and words that the parser may be given
abbrev pub is_prepared : Words → Bool
is_prepared [] = false
is_prepared (name ∷ words) = is_plain name && is_tame words

-- what a command word asks with the rows that the parser found
abbrev pub rows_asked : List ℕ → List Row → Option Task
rows_asked name rows = asked name (first_of (codes "budget") rows) (unwrap_or (all_of (codes "operands") rows) [])
