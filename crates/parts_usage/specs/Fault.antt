-- What is wrong with an order, if anything is.
--     fault_number fault         the number under which a fault is reported
--     order_fault b day names    the first fault: the day's, else that of the first code from the left that has one
use Rattle.std.specs.Prelude.{ℕ, ◌+◌, List, [], Option, Some, if◌then◌else◌}
use Rattle.std.specs.Option.{option_map}
use Rattle.pb_base.specs.NamedSet.{first_fault}
use Rattle.pb_base.specs.declared.named_set.NameFault.{NameFault}
use Rattle.pb_base.specs.declared.named_set.NameFault.TheVariants.{Unknown, Repeated}
use Rattle.book_model.specs.Activity.{is_within}
use Rattle.book_model.specs.Contents.{Contents}
use Rattle.parts_usage.specs.declared.fault.OrderFault.{OrderFault}
use Rattle.parts_usage.specs.declared.fault.OrderFault.TheVariants.{DayOutsideTerm, UnknownCode, RepeatedCode}

abbrev pub fault_number : OrderFault → ℕ
fault_number DayOutsideTerm = 1
fault_number (UnknownCode place) = 2
fault_number (RepeatedCode place) = 3

-- the codes of an order are counted from 1
abbrev pub fault_of_name : NameFault → OrderFault
fault_of_name (Unknown place) = UnknownCode (place + 1)
fault_of_name (Repeated place) = RepeatedCode (place + 1)

abbrev pub order_fault : Contents → ℕ → List (List ℕ) → Option OrderFault
order_fault b day names = if is_within b.first b.last day then option_map fault_of_name (first_fault b.codes [] names) else Some DayOutsideTerm
