-- The words that tell of a rule's fault: its number, and its place in the text where it has one.
use Rattle.std.specs.Prelude.{ℕ, List, ◌++◌, Option, None, Some}
use Rattle.pb_base.specs.Lines.{number_behind, optional_number}
use Rattle.rule_text.specs.Fault.{fault_number}
use Rattle.rule_text.specs.declared.fault.RuleFault.{RuleFault}
use Rattle.rule_text.specs.declared.fault.RuleFault.TheVariants.{Empty, BadByte, UnknownCode, Expected, TooDeep, TooLong}

-- where a rule's text is at fault
abbrev pub rule_place : RuleFault → Option ℕ
rule_place Empty = None
rule_place (BadByte at) = Some at
rule_place (UnknownCode at) = Some at
rule_place (Expected at) = Some at
rule_place (TooDeep at) = Some at
rule_place (TooLong at) = Some at

abbrev pub rule_fault_text : RuleFault → List ℕ
rule_fault_text fault = number_behind (fault_number fault) ++ optional_number (rule_place fault)
