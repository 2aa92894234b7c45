-- What a look at an entry of a literal's list answers.
--     Scene                      what is true, and what the clauses watch
--     Looks s code entry ..      the answer to a look at an entry of the literal's list
--     Passes s code from ..      the answer to a pass over the entries from this place on
use Rattle.std.specs.Prelude.{◌≡◌, ℕ, ◌<◌, ◌≤◌, true, false, length}
use Rattle.clause_pool.specs.Literal.{complement}
use Rattle.clause_pool.specs.Clause.{has}
use Rattle.propagate.specs.Trail.{AllFalse}
use Rattle.propagate.specs.Assignment.{Assigned}
use Rattle.propagate.specs.Watching.{Watching, HasTrue, AreTrue, IsOneOf, IsEntryAt, clause_at, list_of, pair_of}
use Rattle.propagate.specs.declared.watch.Watch.{Watch}
use Rattle.propagate.specs.declared.visit.Outcome.{Outcome}
use Rattle.propagate.specs.declared.visit.Outcome.TheVariants.{Kept, Fresh, Conflict}
use Rattle.propagate.specs.declared.visit.Pass.{Pass}
use Rattle.propagate.specs.declared.visit.Pass.TheVariants as Pass

pub record Scene : Type 0 where
  pub assigned : Assigned
  pub watching : Watching

abbrev pub scene : Assigned → Watching → Scene
scene a w = record { assigned = a; watching = w }

-- the clauses of the first so many entries of the literal have a true literal
abbrev pub AreTrueIn : Scene → ℕ → ℕ → Type 0
AreTrueIn s code n = AreTrue s.assigned s.watching code n

abbrev pub entries_of : Scene → ℕ → ℕ
entries_of s code = length (list_of s.watching code)

-- the clauses of all entries of the literal have a true literal
abbrev pub AllTrueIn : Scene → ℕ → Type 0
AllTrueIn s code = AreTrueIn s code (entries_of s code)

-- all literals of an attached clause are false
pub record IsConflict (s : Scene) (k : ℕ) : Type 0 where
  pub attached : k < length s.watching.clauses
  pub all_false : AllFalse s.assigned.lits (clause_at s.watching.clauses k)

-- the clause of an entry may watch this literal in place of the one whose entry it is
pub record CanWatch (s : Scene) (code : ℕ) (entry : Watch) (other fresh : ℕ) : Type 0 where
  pub one : IsOneOf (pair_of s.watching entry.clause) other
  pub not_code : other ≡ code → ⊥
  pub other_in : has (clause_at s.watching.clauses entry.clause) other ≡ true
  pub is_in : has (clause_at s.watching.clauses entry.clause) fresh ≡ true
  pub below : fresh < length s.watching.lists
  pub apart : other ≡ fresh → ⊥
  pub not_false : has s.assigned.lits (complement fresh) ≡ false

abbrev pub Looks : Scene → ℕ → Watch → Outcome → Type 0
Looks s code entry Kept = HasTrue s.assigned.lits (clause_at s.watching.clauses entry.clause)
Looks s code entry (Fresh other fresh) = CanWatch s code entry other fresh
Looks s code entry Conflict = IsConflict s entry.clause

-- the entry at this place is the first to move
pub record Stops (s : Scene) (code from at other fresh : ℕ) : Type 0 where
  pub behind : from ≤ at
  pub there : at < entries_of s code
  pub true_before : AreTrueIn s code at
  pub entry : Watch
  pub is_entry : IsEntryAt s.watching code at entry
  pub can_watch : CanWatch s code entry other fresh

abbrev pub Passes : Scene → ℕ → ℕ → Pass → Type 0
Passes s code from Pass.Done = AllTrueIn s code
Passes s code from (Pass.Shift at other fresh) = Stops s code from at other fresh
Passes s code from (Pass.Conflict k) = IsConflict s k
