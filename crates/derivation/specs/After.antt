-- What each line of a certificate does where it may stand: the stage behind it, or what is wrong.
--     after b slices stage line
use Rattle.std.specs.Prelude.{ℕ, ◌+◌, Bool, ◌&&◌, ◌==◌, nat_lt, false, List, [], ◌∷◌, ◌++◌, Option, None, Some, Result, Ok, Err, length, slice_get, if◌then◌else◌}
use Rattle.std.specs.List.{list_all}
use Rattle.pb_base.specs.Names.{same_name}
use Rattle.pb_base.specs.NamedSet.{set_of_names}
use Rattle.pb_base.specs.declared.named_set.NameFault.{NameFault}
use Rattle.book_model.specs.Contents.{Contents}
use Rattle.book_model.specs.Good.{is_good}
use Rattle.book_model.specs.declared.record.Slice.{Slice}
use Rattle.clause_pool.specs.Literal.{complement}
use Rattle.clause_pool.specs.Chain.{chain}
use Rattle.clause_pool.specs.declared.chain.StepFault.{StepFault}
use Rattle.clause_pool.specs.declared.chain.StepFault.TheVariants.{NoSuchStep as NoClause, NoPivot as NoHalf}
use Rattle.clausify.specs.Coded.{slice_clauses, slice_asked}
use Rattle.derivation.specs.declared.fault.CertKind.{CertKind}
use Rattle.derivation.specs.declared.fault.CertKind.TheVariants.{Syntax, WrongBook, NoSuchStep, NoPivot, NotClosed, BadSet, Trailing}
use Rattle.derivation.specs.declared.closing.ToClose.{ToClose}
use Rattle.derivation.specs.CertLine.{CertLine, head_line, book_line, slice_line, set_line, step_line, close_line, end_line}
use Rattle.pb_base.specs.Results.{unless}
use Rattle.derivation.specs.Stage.{SliceSoFar, Stage, at_head, at_book, at_slices, at_set, within, at_end, to_close}

-- the first line
abbrev pub after_head : CertLine → Result Stage CertKind
after_head head_line = Ok at_book
after_head _ = Err Syntax

-- the book line names the book and the number of its slices
abbrev pub after_name : Contents → ℕ → CertLine → Result Stage CertKind
after_name b slices (book_line name count) = if same_name name b.name && count == slices then Ok at_slices else Err WrongBook
after_name b slices _ = Err Syntax

-- a slice line has the number of the next slice, and nothing is left of the slice before
abbrev pub next_slice : ℕ → ℕ → Option CertKind → ℕ → Result Stage CertKind
next_slice slices next left number = if number == next && nat_lt next slices then unless left (Ok (at_set next)) else Err Syntax

abbrev pub after_slices : ℕ → CertLine → Result Stage CertKind
after_slices slices (slice_line number) = next_slice slices 0 None number
after_slices slices _ = Err Syntax

-- the names make a set, and it is good
abbrev pub is_good_set : Contents → ℕ → Result (List Bool) NameFault → Bool
is_good_set b day (Ok x) = is_good b day x
is_good_set b day (Err fault) = false

abbrev pub opened : Contents → ℕ → ℕ → SliceSoFar
opened b day number = record { slice = number; clauses = slice_clauses b day; left = to_close 0 (slice_asked b day) }

-- a set line names a good set
abbrev pub good_then : Contents → ℕ → Option Slice → List (List ℕ) → Result Stage CertKind
good_then b number None names = Err Syntax
good_then b number (Some s) names = if is_good_set b s.first (set_of_names b.codes names) then Ok (within (opened b s.first number)) else Err (BadSet number)

abbrev pub after_number : Contents → List Slice → ℕ → CertLine → Result Stage CertKind
after_number b slices number (set_line names) = good_then b number (slice_get slices number) names
after_number b slices number _ = Err Syntax

-- a step line derives the next clause
abbrev pub step_kind : StepFault → CertKind
step_kind (NoClause place) = NoSuchStep
step_kind (NoHalf place) = NoPivot

abbrev pub with_clause : SliceSoFar → Result (List ℕ) StepFault → Result Stage CertKind
with_clause s (Ok clause) = Ok (within (record s { clauses = s.clauses ++ clause ∷ [] }))
with_clause s (Err fault) = Err (step_kind fault)

-- a close line names the next question and a clause that has no literal but the complement of its goal
abbrev pub closes : ℕ → List ℕ → Bool
closes goal clause = list_all (λ l. l == complement goal) clause

abbrev pub closed_by : SliceSoFar → ToClose → List ToClose → Option (List ℕ) → Result Stage CertKind
closed_by s next left None = Err NoSuchStep
closed_by s next left (Some clause) = if closes next.goal clause then Ok (within (record s { left = left })) else Err (NotClosed next.question)

abbrev pub close_next : SliceSoFar → List ToClose → ℕ → ℕ → Result Stage CertKind
close_next s [] question clause = Err Syntax
close_next s (next ∷ left) question clause =
    if question == next.question then closed_by s next left (slice_get s.clauses clause) else Err (NotClosed next.question)

-- no question may be left where a slice ends
abbrev pub first_left : List ToClose → Option CertKind
first_left [] = None
first_left (next ∷ left) = Some (NotClosed next.question)

-- the end line stands behind the last slice
abbrev pub end_behind : ℕ → ℕ → Option CertKind → Result Stage CertKind
end_behind slices next left = if next == slices then unless left (Ok at_end) else Err Syntax

abbrev pub after_within : ℕ → SliceSoFar → CertLine → Result Stage CertKind
after_within slices s (step_line start pairs) = with_clause s (chain s.clauses start pairs)
after_within slices s (close_line question clause) = close_next s s.left question clause
after_within slices s (slice_line number) = next_slice slices (s.slice + 1) (first_left s.left) number
after_within slices s end_line = end_behind slices (s.slice + 1) (first_left s.left)
after_within slices s _ = Err Syntax

abbrev pub after : Contents → List Slice → Stage → CertLine → Result Stage CertKind
after b slices at_head line = after_head line
after b slices at_book line = after_name b (length slices) line
after b slices at_slices line = after_slices (length slices) line
after b slices (at_set number) line = after_number b slices number line
after b slices (within s) line = after_within (length slices) s line
after b slices at_end line = Err Trailing
