-- The numbers of the faults of a rule's text.
use Rattle.std.specs.Prelude.{ℕ}
use Rattle.rule_text.specs.declared.fault.RuleFault.{RuleFault}
use Rattle.rule_text.specs.declared.fault.RuleFault.TheVariants.{Empty, BadByte, UnknownCode, Expected, TooDeep, TooLong}

abbrev pub fault_number : RuleFault → ℕ
fault_number Empty = 1
fault_number (BadByte at) = 2
fault_number (UnknownCode at) = 3
fault_number (Expected at) = 4
fault_number (TooDeep at) = 5
fault_number (TooLong at) = 6
