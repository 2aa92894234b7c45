-- What the builders make, and what the getters read.
use Rattle.std.proofs.Common.{◌≡◌, ◌∙◌, ℕ, false, ap₂, codes, List, [], Option}
use Rattle.std.specs.Option.{option_map, unwrap_or}
use Rattle.clap.specs.Words.{App, Rule, AddsArg, app_of, first_value, matched_of, raw_values, rows_of, rule_of, with_rule}
use Rattle.clap.proofs.WalkLemmas.{first_value-rows, raw_values-rows}
use Rattle.clap.specs.declared.parser.matches.Found.{Found}
use Rattle.clap.specs.declared.builder.arg.Arg.{Arg}
use Rattle.clap.specs.declared.builder.command.Command.{Command}
use Rattle.command_words.specs.Parts.{Words}
use Rattle.command_words.specs.Meaning.{asked}
use Rattle.command_words.specs.Grammar.{rows_asked}

pub one_more : (old : Command) (a : Arg) (new : Command) (app : App) (rule : Rule) → AddsArg old a new → a.global ≡ false → app_of old ≡ app → rule_of a ≡ rule
    → app_of new ≡ with_rule app rule
one_more old a new app rule adds local is rule_is = adds.shape local ∙ ap₂ with_rule is rule_is

-- what a word asks with the rows is what it asks with the option and the operands
pub rows_read : (f : Found) (name : List ℕ) (budget : Option (List ℕ)) (given : Option Words) → budget ≡ first_value f (codes "budget")
    → given ≡ option_map raw_values (matched_of f (codes "operands")) → asked name budget (unwrap_or given []) ≡ rows_asked name (rows_of f)
rows_read f name budget given budget_is given_is =
    ap₂ (λ b o. asked name b (unwrap_or o [])) (budget_is ∙ first_value-rows f (codes "budget")) (given_is ∙ raw_values-rows f (codes "operands"))
