-- What is known while the questions of a slice are asked over the clauses of the whole book.
--     later_questions b day       the questions behind Void
--     all_true a ls               each of the literals is true
--     Assumes b cs vars day q ls  the literals are true together just where a set meets the question's goal
--     AssumesNone ..              they are just where none of some variants is used
--     IsClash ls                  a literal and its complement are among these
--     IsInTerm b s                a slice that begins in the term, all days of which are like its first
--     Asks b s q cs vars ls       literals that say on which day a question is asked, and what it assumes
--     IsOverBook b ps s           a solver over clauses of the book, with these periods
--     IsAsking b asking           a slice of the term, with what says which periods it is in
--     IsKnown b asking sets s     the solver, with literals of usages, and sets that are good on the slice's first day
--     OwnOf i s q notes           the notes on a question
--     AreToldOf i s qs notes      those on questions, in order
use Rattle.std.specs.Prelude.{◌≡◌, ℕ, ◌+◌, ◌*◌, ◌<◌, ◌≤◌, Bool, true, not, ◌&&◌, List, ◌++◌, None, filter, if◌then◌else◌, length, All}
use Rattle.std.specs.List.{flat_map, list_all, list_any}
use Rattle.pb_base.specs.Rule.{holds}
use Rattle.pb_base.specs.declared.limits.TheConstants.{MOST_BUDGET}
use Rattle.pb_base.specs.InParts.{InParts}
use Rattle.book_model.specs.Contents.{Contents}
use Rattle.book_model.specs.Slices.{IsSteady}
use Rattle.book_model.specs.declared.record.Slice.{Slice}
use Rattle.book_clauses.specs.BookClauses.{AreUsages, CodesBook, literals_on}
use Rattle.clause_pool.specs.Literal.{complement, is_true}
use Rattle.clause_pool.specs.Clause.{has, Sat}
use Rattle.chains.specs.Growth.{given_of}
use Rattle.clausify.specs.Choices.{choices, usage, is_active_variant}
use Rattle.clausify.specs.Lifting.{BeginsWith}
use Rattle.clausify.specs.Questions.{HasSet, choice_questions, code_questions_from, goal, is_to_close}
use Rattle.clausify.specs.declared.question.Asked.{Asked}
use Rattle.clausify.specs.declared.question.Question.{Question}
use Rattle.propagate.specs.Trail.{AreLiterals}
use Rattle.slice_hints.specs.Found.{IsFound}
use Rattle.slice_hints.specs.declared.found.Found.{Found}
use Rattle.solver.specs.Answer.{Begins}
use Rattle.solver.specs.Solver.{Solving}
use Rattle.findings.specs.Findings.{MeetsThrough}
use Rattle.findings.specs.Notes.{Inquiry, OwnNotes, is_asked}
use Rattle.findings.specs.declared.outcome.Outcome.{Outcome}
use Rattle.findings.specs.declared.outcome.Outcome.TheVariants.{Fine, Noted}
use Rattle.findings.specs.declared.report.Note.{Note}
use Rattle.findings.specs.declared.report.Note.TheVariants.{Finding}
use Rattle.findings.specs.declared.core_report.Asking.{Asking}
use Rattle.findings.specs.declared.task.SliceTask.{SliceTask}

abbrev pub later_questions : Contents → ℕ → List Question
later_questions b day = code_questions_from 0 b.codes ++ flat_map choice_questions (choices b day)

abbrev pub all_true : (ℕ → Bool) → List ℕ → Bool
all_true a ls = list_all (is_true a) ls

pub record Assumes (b : Contents) (cs : List (List ℕ)) (vars day : ℕ) (q : Question) (ls : List ℕ) : Type 0 where
  pub below : AreLiterals ls (2 * vars)
  pub right : (x : List Bool) (a : ℕ → Bool) → length x ≡ length b.codes → BeginsWith x a → Sat cs a
      → all_true a ls ≡ holds (goal b day q) x

-- the literals are true together just where the formula of none of these variants that are active is true
pub record AssumesNone (b : Contents) (cs : List (List ℕ)) (vars day : ℕ) (variants ls : List ℕ) : Type 0 where
  pub below : AreLiterals ls (2 * vars)
  pub right : (x : List Bool) (a : ℕ → Bool) → length x ≡ length b.codes → BeginsWith x a → Sat cs a
      → all_true a ls ≡ not (list_any (λ v. is_active_variant b day v && holds (usage b v) x) variants)

pub record IsClash (ls : List ℕ) : Type 0 where
  pub literal : ℕ
  pub is_in : has ls literal ≡ true
  pub other : has ls (complement literal) ≡ true

pub record IsInTerm (b : Contents) (s : Slice) : Type 0 where
  pub order : s.first ≤ s.last
  pub steady : IsSteady b s
  pub not_before : b.first ≤ s.first
  pub not_after : s.first ≤ b.last

pub record IsCoreTask (b : Contents) (task : SliceTask) : Type 0 where
  pub slice : IsInTerm b task.slice
  pub some : 0 < task.effort.budget
  pub most : task.effort.budget ≤ MOST_BUDGET

-- where nothing satisfies the clauses and makes the literals true the question has no set, and what does both begins with one
pub record Asks (b : Contents) (s : Slice) (q : Question) (cs : List (List ℕ)) (vars : ℕ) (ls : List ℕ) : Type 0 where
  pub below : AreLiterals ls (2 * vars)
  pub none : ((a : ℕ → Bool) → Sat cs a → all_true a ls ≡ true → ⊥) → HasSet b s q → ⊥
  pub meets : (x : List Bool) → Begins cs ls (length b.codes) x → MeetsThrough b s q x

pub record IsOverBook (b : Contents) (ps : List Slice) (solving : Solving) : Type 0 where
  pub codes : solving.codes ≡ length b.codes
  pub periods : length b.codes + length ps < solving.vars
  pub clauses : CodesBook b ps (given_of solving.kernel)

-- what every question of a slice assumes
abbrev pub periods_of : Contents → List Slice → Slice → List ℕ
periods_of b ps s = literals_on (length b.codes) ps s.first

-- a slice of the term, with what says which periods it is in
pub record IsAsking (b : Contents) (asking : Asking) : Type 0 where
  pub task : IsCoreTask b asking.task
  pub on : asking.on.now ≡ periods_of b asking.periods.now asking.task.slice

-- a solver over the book's clauses, the literals of usages among them, and sets that are good on the slice's first day
pub record IsKnown (b : Contents) (asking : Asking) (sets : List Found) (solving : Solving) : Type 0 where
  pub over : IsOverBook b asking.periods.now solving
  pub usages : AreUsages b (given_of solving.kernel) solving.vars asking.usages.now
  pub found : All (IsFound b asking.task.slice.first) sets

abbrev pub OwnOf : Inquiry → Slice → Question → List Note → Type 0
OwnOf i s q notes = (a : Asked) → a.question ≡ q → OwnNotes i s a notes

abbrev pub AreToldOf : Inquiry → Slice → List Question → List Note → Type 0
AreToldOf i s qs notes = InParts (OwnOf i s) (filter (is_asked i.ask) qs) notes

-- what comes of a question that has no set
abbrev pub outcome_of_none : Question → Outcome
outcome_of_none q = if is_to_close q then Fine else Noted (Finding q None)
