-- What the values of the reader stand for, and what it makes of a token.
use Rattle.std.specs.Prelude.{◌≡◌, ℕ, List, reverse, Result, true}
use Rattle.std.specs.List.{list_all}
use Rattle.pb_base.specs.Answers.{Leaves}
use Rattle.pb_base.specs.declared.answer.Fail.{Fail}
use Rattle.pb_base.specs.Names.{is_name_byte}
use Rattle.rule_text.specs.Token.{Token, Placed, word, plus, slash, minus, opening, closing, semicolon, other}
use Rattle.rule_text.specs.Steps.{State, step}
use Rattle.rule_text.specs.declared.fault.RuleFault.{RuleFault}
use Rattle.rule_text.specs.declared.fault.RuleFault.TheVariants.{BadByte, Expected}
use Rattle.rule_text.specs.declared.token.Token.{Token as CodeToken}
use Rattle.rule_text.specs.declared.token.Token.TheVariants.{Word, Plus, Slash, Minus, Opening, Closing, Semicolon, Other}
use Rattle.rule_text.specs.declared.reader.Reader.{Reader}
use Rattle.rule_text.specs.declared.standing.Stage.{Stage}

abbrev pub token_of : CodeToken → Token
token_of (Word w) = word w.now
token_of Plus = plus
token_of Slash = slash
token_of Minus = minus
token_of Opening = opening
token_of Closing = closing
token_of Semicolon = semicolon
token_of Other = other

-- a word has word bytes alone
abbrev pub IsLexed : CodeToken → Type 0
IsLexed (Word w) = list_all is_name_byte w.now ≡ true
IsLexed token = Unit {0}

-- the fault of a token that may not stand where it is
abbrev pub misplaced : ℕ → Token → RuleFault
misplaced at other = BadByte at
misplaced at t = Expected at

-- where a reader is, were it at this stage
abbrev pub state_at : Stage → Reader → State
state_at stage r = record {
  standing = record { stage = stage; pending = reverse r.pending.items; count = r.nodes };
  read = record { innermost = r.expression; outer = reverse r.outer.items };
}

abbrev pub state_of : Reader → State
state_of r = state_at r.stage r

-- the reader becomes what a step makes of this state, or refuses the token with its fault
abbrev pub Takes : {U : Type 0} → Result U (Fail RuleFault) → Reader → List (List ℕ) → State → Placed → Type 0
Takes result new names old t = Leaves result (state_of new) (step names old t)
