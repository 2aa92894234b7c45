-- What is so of a case: of a rule and entries of a book for a day.
--     FitsCase c                     its rule is one of the book's
--     GuardsCase c s                 a solver is over its rule and entries, of which each has a guard
--     MarksCase c budget marks       the marks of its entries are right
--     BlamesCase c budget m          what is told is to blame
--     NeedsCase c kept needed        each of these entries is needed among those that are kept
--     ShowsNeed c kept but x         the set meets the rule and all kept entries but that at a place
--     IsSearched c kept but budget s answer
--                                    a solver over them was asked for a set that meets the rule and all kept entries but that at a place
use Rattle.std.specs.Prelude.{ℕ, ◌+◌, Bool, List, length}
use Rattle.book_model.specs.Book.{RuleFits}
use Rattle.solver.specs.Solver.{Solving}
use Rattle.solver.specs.declared.answer.Answer.{Answer}
use Rattle.blame.specs.Blame.{IsBlame}
use Rattle.blame.specs.Guards.{IsGuarding, AreAllGuards}
use Rattle.blame.specs.Guarding.{AreMarked, AreNeeded, IsGuardedAnswer, MeetsBut}
use Rattle.blame.specs.declared.blamed.Blamed.{Blamed}
use Rattle.blame.specs.declared.case.Case.{Case}
use Rattle.blame.specs.declared.marks.Marks.{Marks}

abbrev pub FitsCase : Case → Type 0
FitsCase c = RuleFits (length c.book.now.codes) c.rule.now

abbrev pub GuardsCase : Case → Solving → Type 0
GuardsCase c s = IsGuarding c.book.now c.day c.rule.now c.entries.now s

abbrev pub MarksCase : Case → ℕ → Marks → Type 0
MarksCase c budget marks = AreMarked c.book.now c.day c.rule.now c.entries.now budget marks

abbrev pub BlamesCase : Case → ℕ → Blamed → Type 0
BlamesCase c budget m = IsBlame c.book.now c.day c.rule.now budget m.entries.items m.needed.items

abbrev pub NeedsCase : Case → List Bool → List Bool → Type 0
NeedsCase c kept needed = AreNeeded c.book.now c.day c.rule.now c.entries.now kept needed

abbrev pub ShowsNeed : Case → List Bool → ℕ → List Bool → Type 0
ShowsNeed c kept but x = MeetsBut c.book.now c.day c.rule.now c.entries.now kept but x

-- the literals that were asked for say of each entry whether its guard is there
pub record IsSearched (c : Case) (kept : List Bool) (but budget : ℕ) (s : Solving) (answer : Answer) : Type 0 where
  pub guarding : GuardsCase c s
  pub lits : List ℕ
  pub guards : AreAllGuards (length c.book.now.codes) kept but lits
  pub answered : IsGuardedAnswer (length c.book.now.codes) (length c.book.now.codes + length c.entries.now) guarding.test s lits budget answer
