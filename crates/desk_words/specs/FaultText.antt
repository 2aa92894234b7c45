-- The lines that tell of a fault.
use Rattle.std.specs.Prelude.{ℕ, List, [], ◌++◌, Option, None, Some, codes}
use Rattle.rule_text.specs.FaultText.{rule_fault_text}
use Rattle.book_model.specs.declared.slicing.LimitFault.{LimitFault}
use Rattle.book_model.specs.declared.slicing.LimitFault.TheVariants.{Slices, Questions}
use Rattle.book_text.specs.Fault.{kind_number}
use Rattle.book_text.specs.declared.fault.BookFault.{BookFault}
use Rattle.book_text.specs.declared.fault.BookKind.{BookKind}
use Rattle.book_text.specs.declared.fault.BookKind.TheVariants.{TooLarge, NotUtf8, NoBookRecord, SecondBookRecord, UnknownKind, FieldCount, BadName, BadNumber, BadDays, Duplicate, UnknownName, BadRule, Limit}
use Rattle.book_text.specs.declared.fault.Which.{Which}
use Rattle.book_text.specs.declared.fault.Which.TheVariants.{Codes, Supplements, Constructs, Modules, Positions, Variants, Choices, Groups}
use Rattle.parts_usage.specs.Fault.{fault_number as order_number}
use Rattle.parts_usage.specs.declared.fault.OrderFault.{OrderFault}
use Rattle.parts_usage.specs.declared.fault.OrderFault.TheVariants.{DayOutsideTerm, UnknownCode as UnknownOrdered, RepeatedCode}
use Rattle.pb_base.specs.Lines.{line, number_behind, optional_number}

abbrev pub which_text : Which → List ℕ
which_text Codes = codes " codes"
which_text Supplements = codes " supplements"
which_text Constructs = codes " constructs"
which_text Modules = codes " modules"
which_text Positions = codes " positions"
which_text Variants = codes " variants"
which_text Choices = codes " choices"
which_text Groups = codes " groups"

-- what stands behind the number of a kind
abbrev pub kind_detail : BookKind → List ℕ
kind_detail TooLarge = []
kind_detail NotUtf8 = []
kind_detail NoBookRecord = []
kind_detail SecondBookRecord = []
kind_detail UnknownKind = []
kind_detail FieldCount = []
kind_detail BadName = []
kind_detail BadNumber = []
kind_detail BadDays = []
kind_detail Duplicate = []
kind_detail UnknownName = []
kind_detail (BadRule fault) = rule_fault_text fault
kind_detail (Limit which) = which_text which

abbrev pub book_fault_text : BookFault → List ℕ
book_fault_text fault = line (codes "book fault" ++ number_behind fault.row ++ number_behind (kind_number fault.kind) ++ kind_detail fault.kind)

-- where an order is at fault: the place of the code
abbrev pub order_place : OrderFault → Option ℕ
order_place DayOutsideTerm = None
order_place (UnknownOrdered place) = Some place
order_place (RepeatedCode place) = Some place

abbrev pub order_fault_text : OrderFault → List ℕ
order_fault_text fault = line (codes "order fault" ++ number_behind (order_number fault) ++ optional_number (order_place fault))

-- the limit that checking a book exceeds
abbrev pub limit_text : LimitFault → List ℕ
limit_text (Slices count) = codes "limit slices" ++ number_behind count
limit_text (Questions slice count) = codes "limit questions" ++ number_behind slice ++ number_behind count

abbrev pub limit_fault_text : LimitFault → List ℕ
limit_fault_text fault = line (limit_text fault)
