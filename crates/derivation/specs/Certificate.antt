-- What a certificate is answered: the numbers of its slices and of its steps, or its first fault.
--     cert_answer b text     over a book and the bytes of the text
--     cert_fault b text      the fault, where there is one
use Rattle.std.specs.Prelude.{ℕ, ◌+◌, Bool, true, false, List, [], ◌∷◌, Option, None, Some, Result, Ok, Err, length}
use Rattle.std.specs.Option.{ok_or}
use Rattle.std.specs.Result.{result_err}
use Rattle.book_model.specs.Contents.{Contents}
use Rattle.book_model.specs.declared.record.Slice.{Slice}
use Rattle.book_model.specs.declared.slicing.LimitFault.{LimitFault}
use Rattle.derivation.specs.declared.fault.CertFault.{CertFault}
use Rattle.derivation.specs.declared.fault.CertKind.{CertKind}
use Rattle.derivation.specs.declared.fault.CertKind.TheVariants.{Syntax, Trailing, Limit}
use Rattle.derivation.specs.declared.fault.Certified.{Certified}
use Rattle.derivation.specs.After.{after}
use Rattle.derivation.specs.CertLine.{CertLine, step_line, cert_line}
use Rattle.derivation.specs.Limits.{slices_within}
use Rattle.derivation.specs.Pieces.{pieces}
use Rattle.pb_base.specs.Results.{and_then, unless}
use Rattle.derivation.specs.Stage.{Stage, at_head, at_end}

-- what is wrong with a line, and the line's number
abbrev pub at_line : {A : Type 0} → ℕ → Result A CertKind → Result A CertFault
at_line line (Ok value) = Ok value
at_line line (Err kind) = Err (record { line = line; kind = kind })

-- no line may stand behind the end line
abbrev pub past_end : Stage → Option CertKind
past_end at_end = Some Trailing
past_end _ = None

abbrev pub line_at : Stage → Option CertLine → Result CertLine CertKind
line_at stage line = unless (past_end stage) (ok_or line Syntax)

abbrev pub is_step : CertLine → Bool
is_step (step_line start pairs) = true
is_step _ = false

-- the stage behind a line, and whether the line is a step
abbrev pub taken_as : Bool → Stage → Result (Stage × Bool) CertKind
taken_as is_step behind = Ok (behind, is_step)

abbrev pub taken_line : Contents → List Slice → Stage → Option CertLine → Result (Stage × Bool) CertKind
taken_line b slices stage line = and_then (line_at stage line) (λ l. and_then (after b slices stage l) (taken_as (is_step l)))

-- nothing may stand behind the last line feed, which ends the end line
abbrev pub after_last : Certified → Stage → List ℕ → Result Certified CertKind
after_last so_far at_end [] = Ok so_far
after_last so_far at_end (b ∷ bs) = Err Trailing
after_last so_far stage rest = Err Syntax

-- the number of steps is counted along
abbrev pub with_line : Certified → Bool → Certified
with_line so_far true = record so_far { steps = so_far.steps + 1 }
with_line so_far false = so_far

-- the lines from a stage on, of which the first has the number n
abbrev pub read_lines : Contents → List Slice → Stage → ℕ → Certified → List (List ℕ) → Result Certified CertFault
read_lines b slices stage n so_far [] = at_line n (Err Syntax)
read_lines b slices stage n so_far (rest ∷ []) = at_line n (after_last so_far stage rest)
read_lines b slices stage n so_far (text ∷ next ∷ texts) =
    and_then (at_line n (taken_line b slices stage (cert_line text))) (λ taken.
    read_lines b slices taken.0 (n + 1) (with_line so_far taken.1) (next ∷ texts))

abbrev pub read_cert : Contents → List ℕ → List Slice → Result Certified CertFault
read_cert b text slices = read_lines b slices at_head 1 (record { slices = length slices; steps = 0 }) (pieces 10 text)

-- a limit that the book exceeds is told at line 0
abbrev pub within_limits : Result (List Slice) LimitFault → Result (List Slice) CertFault
within_limits (Ok slices) = Ok slices
within_limits (Err fault) = Err (record { line = 0; kind = Limit fault })

abbrev pub cert_answer : Contents → List ℕ → Result Certified CertFault
cert_answer b text = and_then (within_limits (slices_within b)) (read_cert b text)

-- the first fault, if there is one
abbrev pub cert_fault : Contents → List ℕ → Option CertFault
cert_fault b text = result_err (cert_answer b text)
