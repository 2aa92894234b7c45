-- What is known while the questions of a slice are asked.
--     SliceFacts b s          what the clauses of the slice say of its days
--     IsTask b task           the facts of the task's slice, and a budget within its bounds
--     IsAsked b s a           a question of the slice other than Void
--     IsOver b s solving      a solver over the clauses of the slice
--     IsOutcome i s clauses a outcome
--                             what comes of one question: its notes, or the clause that closes it
--     AreTold i s asked told clauses
--                             the same of some questions behind Void, of which the first has the number 1
--     ShowsUnlessStopped b s notes proof
--                             what shows that no note keeps the book from its release, unless one does
--     IsShownIn b slices count text
--                             the text so far of a certificate of so many slices, with a proof of each of these
use Rattle.std.specs.Prelude.{◌≡◌, ◌↔◌, ℕ, ◌*◌, ◌<◌, ◌≤◌, Bool, true, false, ◌||◌, List, [], ◌∷◌, Option, Some, None, IsTrue, filter, length, slice_get}
use Rattle.std.specs.List.{AllZip, list_any}
use Rattle.pb_base.specs.declared.limits.TheConstants.{MOST_BUDGET}
use Rattle.pb_base.specs.InParts.{InParts}
use Rattle.book_model.specs.Activity.{is_within}
use Rattle.book_model.specs.Contents.{Contents}
use Rattle.book_model.specs.declared.record.Slice.{Slice}
use Rattle.clause_pool.specs.Derivation.{Derivation}
use Rattle.clausify.specs.Coded.{slice_clauses, slice_variables, slice_asked}
use Rattle.clausify.specs.Lifting.{CodesGoodSets, IsMet}
use Rattle.clausify.specs.Questions.{HasSet, QuestionFits, is_to_close}
use Rattle.clausify.specs.declared.question.Asked.{Asked}
use Rattle.chains.specs.Growth.{ClosedAt}
use Rattle.derivation.specs.Showing.{AllClosed, ShowsSlice, StandsOver}
use Rattle.derivation.specs.Stage.{to_close}
use Rattle.derivation.specs.Written.{IsBegun}
use Rattle.derivation.specs.declared.slice_proof.SliceProof.{SliceProof}
use Rattle.solver.specs.Solver.{Solving}
use Rattle.findings.specs.Notes.{Inquiry, OwnNotes, is_asked, is_fault, is_left}
use Rattle.findings.specs.declared.task.Effort.{Effort}
use Rattle.findings.specs.declared.task.SliceTask.{SliceTask}
use Rattle.findings.specs.declared.outcome.Outcome.{Outcome}
use Rattle.findings.specs.declared.outcome.Outcome.TheVariants.{Fine, Closed, Noted}
use Rattle.findings.specs.declared.outcome.Told.{Told}
use Rattle.findings.specs.declared.report.Note.{Note}
use Rattle.findings.specs.declared.slice.Shown.{Shown}

pub record SliceFacts (b : Contents) (s : Slice) : Type 0 where
  pub order : s.first ≤ s.last
  pub on_each_day : (day : ℕ) → IsTrue (is_within s.first s.last day)
      → CodesGoodSets b day (slice_clauses b s.first) (slice_variables b s.first) (slice_asked b s.first)
  pub decides : (k : ℕ) (a : Asked) → slice_get (slice_asked b s.first) k ≡ Some a
      → HasSet b s a.question ↔ IsMet (slice_clauses b s.first) a.goal

pub record IsTask (b : Contents) (task : SliceTask) : Type 0 where
  pub facts : SliceFacts b task.slice
  pub some : 0 < task.effort.budget
  pub most : task.effort.budget ≤ MOST_BUDGET

pub record IsAsked (b : Contents) (s : Slice) (a : Asked) : Type 0 where
  pub number : ℕ
  pub is_its : slice_get (slice_asked b s.first) number ≡ Some a
  pub below : a.goal < 2 * slice_variables b s.first
  pub fits : QuestionFits b a.question

-- the solver's kernel was given the clauses of the slice, and it seeks sets of the book's codes
pub record IsOver (b : Contents) (s : Slice) (solving : Solving) : Type 0 where
  pub stands : StandsOver (slice_clauses b s.first) solving.kernel
  pub variables : solving.vars ≡ slice_variables b s.first
  pub codes : solving.codes ≡ length b.codes

-- a note that keeps the book from its release
abbrev pub stops : Note → Bool
stops note = is_fault note || is_left note

abbrev pub inquiry : Contents → Effort → Inquiry
inquiry b effort = record { book = b; ask = effort.ask; budget = effort.budget }

abbrev pub IsOutcome : Inquiry → Slice → List (List ℕ) → Asked → Outcome → Type 0
IsOutcome i s clauses a Fine = OwnNotes i s a [] × (is_to_close a.question ≡ false)
IsOutcome i s clauses a (Closed at) = OwnNotes i s a [] × (is_to_close a.question ≡ true) × ClosedAt clauses a.goal at
IsOutcome i s clauses a (Noted note) = OwnNotes i s a (note ∷ []) × (stops note ≡ is_to_close a.question)

pub record AreTold (i : Inquiry) (s : Slice) (asked : List Asked) (told : Told) (clauses : List (List ℕ)) : Type 0 where
  pub notes : InParts (OwnNotes i s) (filter (λ a. is_asked i.ask a.question) asked) told.notes.items
  pub closed : list_any stops told.notes.items ≡ false → AllClosed clauses (to_close 1 asked) told.closed.items

abbrev pub ShowsUnlessStopped : Contents → Slice → List Note → Option SliceProof → Type 0
ShowsUnlessStopped b s notes (Some proof) = (list_any stops notes ≡ false) × ShowsSlice b s proof
ShowsUnlessStopped b s notes None = list_any stops notes ≡ true

pub record IsShownIn (b : Contents) (slices : List Slice) (count : ℕ) (text : List ℕ) : Type 0 where
  pub proofs : List SliceProof
  pub each : AllZip (ShowsSlice b) slices proofs
  pub begun : IsBegun b count proofs text

-- what is shown, with the kernel that it stands in
abbrev pub proof_in : Derivation → Option Shown → Option SliceProof
proof_in k None = None
proof_in k (Some shown) = Some (record { set = shown.set; kernel = k; closed = shown.closed })
