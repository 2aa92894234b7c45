-- The line that tells of the fault of a text of requirements.
use Rattle.std.specs.Prelude.{List, ℕ, [], ◌++◌, codes}
use Rattle.book_text.specs.declared.fault.BookKind.{BookKind}
use Rattle.book_text.specs.declared.fault.BookKind.TheVariants.{TooLarge, NotUtf8, NoBookRecord, SecondBookRecord, UnknownKind, FieldCount, BadName, BadNumber, BadDays, Duplicate, UnknownName, BadRule, Limit}
use Rattle.rule_text.specs.FaultText.{rule_fault_text}
use Rattle.pb_base.specs.Lines.{line, number_behind}
use Rattle.requirements.specs.Fault.{kind_number}
use Rattle.requirements.specs.declared.fault.RequirementFault.{RequirementFault}
use Rattle.requirements.specs.declared.fault.RequirementKind.{RequirementKind}
use Rattle.requirements.specs.declared.fault.RequirementKind.TheVariants.{AsInBooks, TooMany}

-- what stands behind the number of a kind
abbrev pub book_kind_detail : BookKind → List ℕ
book_kind_detail TooLarge = []
book_kind_detail NotUtf8 = []
book_kind_detail NoBookRecord = []
book_kind_detail SecondBookRecord = []
book_kind_detail UnknownKind = []
book_kind_detail FieldCount = []
book_kind_detail BadName = []
book_kind_detail BadNumber = []
book_kind_detail BadDays = []
book_kind_detail Duplicate = []
book_kind_detail UnknownName = []
book_kind_detail (BadRule fault) = rule_fault_text fault
book_kind_detail (Limit which) = []

abbrev pub kind_detail : RequirementKind → List ℕ
kind_detail (AsInBooks kind) = book_kind_detail kind
kind_detail TooMany = codes " requirements"

abbrev pub requirement_fault_text : RequirementFault → List ℕ
requirement_fault_text fault = line (codes "requirement fault" ++ number_behind fault.row ++ number_behind (kind_number fault.kind) ++ kind_detail fault.kind)
