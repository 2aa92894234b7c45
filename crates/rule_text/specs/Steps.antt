-- A reader's way through the tokens.
use Rattle.std.specs.Prelude.{ℕ, List, [], Some, None, if◌then◌else◌, Result, Ok}
use Rattle.pb_base.specs.Rule.{Rule}
use Rattle.pb_base.specs.Results.{unless}
use Rattle.rule_text.specs.Token.{Token, Placed}
use Rattle.rule_text.specs.FirstFault.{Standing, start, behind, may_end, token_fault}
use Rattle.rule_text.specs.Reading.{Read, outside, whole, token_read}
use Rattle.rule_text.specs.declared.fault.RuleFault.{RuleFault}
use Rattle.rule_text.specs.declared.fault.RuleFault.TheVariants.{Expected}

-- where a reader is: what its tests hang on, and what it read
pub record State : Type 0 where
  pub standing : Standing
  pub read : Read

abbrev pub begin : State
begin = record { standing = start; read = outside [] }

-- what a reader makes of a token
abbrev pub next : List (List ℕ) → State → Token → State
next names s t = record { standing = behind s.standing t; read = token_read names s.standing.pending s.read t }

abbrev pub step : List (List ℕ) → State → Placed → Result State RuleFault
step names s t = unless (token_fault names s.standing t) (Ok (next names s t.1))

-- and of the end of the text
abbrev pub finish : ℕ → State → Result Rule RuleFault
finish end s = unless (if may_end s.standing.stage s.standing.pending then None else Some (Expected end)) (Ok (whole s.read.innermost))
