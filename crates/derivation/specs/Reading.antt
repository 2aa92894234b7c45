-- What the reader of a certificate holds: the line that it read, and the stage that it stands at.
use Rattle.std.specs.Prelude.{◌≡◌, ℕ, ◌<◌, ◌≤◌, Bool, true, List, length, take, drop}
use Rattle.std.specs.List.{list_all}
use Rattle.pb_base.specs.Digits.{is_digit, value_of}
use Rattle.pb_base.specs.declared.answer.Fail.{Fail}
use Rattle.pb_base.specs.declared.answer.Fail.TheVariants.{Refused, Memory}
use Rattle.clause_pool.specs.declared.chain.Pair.{Pair}
use Rattle.derivation.specs.declared.check.Taken.{Taken}
use Rattle.derivation.specs.declared.fault.CertFault.{CertFault}
use Rattle.derivation.specs.declared.fault.CertKind.{CertKind}
use Rattle.derivation.specs.declared.line.Line.{Line}
use Rattle.derivation.specs.declared.line.Line.TheVariants.{Head, Book, Slice, Set, Step, Close, End}
use Rattle.derivation.specs.declared.word.FrontNumber.{FrontNumber}
use Rattle.derivation.specs.declared.stage.OpenSlice.{OpenSlice}
use Rattle.derivation.specs.declared.stage.Stage as code
use Rattle.derivation.specs.declared.stage.Stage.TheVariants.{Head as Top, Book as Named, Slices, Set as OfSet, Within, End as Done}
use Rattle.derivation.specs.Stage.{SliceSoFar, Stage, at_head, at_book, at_slices, at_set, within, at_end}
use Rattle.derivation.specs.CertLine.{CertLine, head_line, book_line, slice_line, set_line, step_line, close_line, end_line}

-- the pairs of a step stand beside it
abbrev pub line_of : Line → List Pair → CertLine
line_of Head pairs = head_line
line_of (Book name count) pairs = book_line name count
line_of (Slice number) pairs = slice_line number
line_of (Set names) pairs = set_line names
line_of (Step start) pairs = step_line start pairs
line_of (Close question clause) pairs = close_line question clause
line_of End pairs = end_line

abbrev pub so_far_of : OpenSlice → SliceSoFar
so_far_of s = record { slice = s.slice; clauses = s.checker; left = drop s.closed s.to_close.items }

abbrev pub stage_of : code.Stage → Stage
stage_of Top = at_head
stage_of Named = at_book
stage_of Slices = at_slices
stage_of (OfSet number) = at_set number
stage_of (Within s) = within (so_far_of s.value)
stage_of Done = at_end

-- a step has at least one pair
abbrev pub HasPairs : Line → List Pair → Type 0
HasPairs (Step start) pairs = 0 < length pairs
HasPairs line pairs = Unit {0}

abbrev pub seen : Taken → Stage × Bool
seen taken = (stage_of taken.stage, taken.is_step)

abbrev pub fault_at : ℕ → Fail CertKind → Fail CertFault
fault_at line (Refused kind) = Refused (record { line = line; kind = kind })
fault_at line Memory = Memory

-- the digits in front of a text that end here, at most 19, have this value
pub record AreLeading (text : List ℕ) (front : FrontNumber) : Type 0 where
  pub within : front.end ≤ length text
  pub few : front.end ≤ 19
  pub digits : list_all is_digit (take front.end text) ≡ true
  pub value : value_of (take front.end text) ≡ front.value
