-- What reading and printing owe to the grammar and to the first fault.
use Rattle.std.specs.Prelude.{◌≡◌, ℕ, ◌<◌, ◌≤◌, List, Option, Some, None, Result, Ok, Err}
use Rattle.pb_base.specs.Rule.{Rule, nodes}
use Rattle.pb_base.specs.declared.answer.Fail.{Fail}
use Rattle.pb_base.specs.declared.answer.Fail.TheVariants.{Refused, Memory}
use Rattle.rule_text.specs.Token.{tokens}
use Rattle.rule_text.specs.Grammar.{IsText}
use Rattle.rule_text.specs.Reading.{rule_of}
use Rattle.rule_text.specs.Printing.{printed_depth}
use Rattle.pb_base.specs.declared.limits.TheConstants.{MOST_NESTING, MOST_NODES}
use Rattle.rule_text.specs.declared.fault.RuleFault.{RuleFault}
use Rattle.rule_text.specs.declared.fault.RuleFault.TheVariants.{Empty, BadByte, UnknownCode, Expected, TooDeep, TooLong}

-- the text is in the grammar as this rule, and keeps both limits
abbrev pub IsShortText : List (List ℕ) → List ℕ → Rule → Type 0
IsShortText names text rule = IsText names MOST_NESTING (tokens text) rule × (nodes rule ≤ MOST_NODES)

-- a value is answered where there is no fault, and else this fault is; want of memory is free
abbrev pub AnswersFault : {A : Type 0} → Result A (Fail RuleFault) → Option RuleFault → Type 0
AnswersFault (Ok value) fault = fault ≡ None
AnswersFault (Err (Refused found)) fault = fault ≡ Some found
AnswersFault (Err Memory) fault = Unit {0}

-- a refusal names a limit that a text of this depth and this many nodes does not keep
abbrev pub RefusesForLimit : {A : Type 0} → Result A (Fail RuleFault) → ℕ → ℕ → Type 0
RefusesForLimit (Ok value) depth count = Unit {0}
RefusesForLimit (Err (Refused (TooDeep at))) depth count = MOST_NESTING < depth
RefusesForLimit (Err (Refused (TooLong at))) depth count = MOST_NODES < count
RefusesForLimit (Err (Refused Empty)) depth count = ⊥
RefusesForLimit (Err (Refused (BadByte at))) depth count = ⊥
RefusesForLimit (Err (Refused (UnknownCode at))) depth count = ⊥
RefusesForLimit (Err (Refused (Expected at))) depth count = ⊥
RefusesForLimit (Err Memory) depth count = Unit {0}

-- what is in the grammar is refused for a limit alone
abbrev pub RefusesForLimits : {A : Type 0} → Result A (Fail RuleFault) → List (List ℕ) → List ℕ → Type 0
RefusesForLimits result names text = (depth : ℕ) (rule : Rule) → IsText names depth (tokens text) rule → RefusesForLimit result depth (nodes rule)

-- the text that was printed of a rule is read as that rule, where it keeps both limits
abbrev pub ReadsBack : List (List ℕ) → Rule → List ℕ → Type 0
ReadsBack names rule text = printed_depth rule ≤ MOST_NESTING → nodes rule ≤ MOST_NODES → rule_of names text ≡ Ok rule
