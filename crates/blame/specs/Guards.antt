-- A solver over entries, each of which holds where its guard is true, and searches that it left. The guard of the entry at place k is the
-- code k behind those of the book.
--     MeetsKept b day x m kept    the set meets each entry that is kept
--     GuardedSets codes n test s  just the sets of n codes and guards that pass the test begin what satisfies a solver's clauses, and it
--                                 decides the first codes alone
--     IsGuarding b day f m s      what meets the kept entries and the rule passes the test of the solver with just their guards; and what
--                                 passes it meets the entries of which it has the guard, and the rule
--     AreGuards n kept but lits   each of these literals says whether the guard of an entry is there: just those of the kept ones are, but for
--                                 that at one place
--     AreAllGuards ..             these are just the literals that say so
--     IsLeftBut b day f m kept but budget
--                                 a search was left for a set that meets the rule and all kept entries but that at a place: as many clauses
--                                 were learnt as the budget allows, each of which follows, and says what propagation did not
use Rattle.std.specs.Prelude.{◌≡◌, ◌==◌, ℕ, ◌+◌, ◌<◌, ◌≤◌, ◌&&◌, Bool, true, not, List, Some, length, slice_get}
use Rattle.pb_base.specs.Rule.{Rule, holds}
use Rattle.pb_base.specs.Sets.{has}
use Rattle.book_model.specs.Contents.{Contents}
use Rattle.clause_pool.specs.Literal.{literal}
use Rattle.clause_pool.specs.Clause.{has as has_literal}
use Rattle.chains.specs.Growth.{given_of}
use Rattle.clausify.specs.Lifting.{CodesJust}
use Rattle.solver.specs.Answer.{IsSpent}
use Rattle.solver.specs.Solver.{Solving}
use Rattle.blame.specs.Entries.{meets_entry}
use Rattle.blame.specs.declared.entries.Entry.{Entry}

abbrev pub MeetsKept : Contents → ℕ → List Bool → List Entry → List Bool → Type 0
MeetsKept b day x m kept = (k : ℕ) (e : Entry) → slice_get m k ≡ Some e → has kept k ≡ true → meets_entry b day x e ≡ true

pub record GuardedSets (codes n : ℕ) (test : List Bool → Bool) (s : Solving) : Type 0 where
  pub just : CodesJust n test (given_of s.kernel) s.vars
  pub within : n ≤ s.vars
  pub decides : s.codes ≡ codes

-- x has the codes of y, which has guards besides: it meets the rule, and the entries of which the guards are there
pub record MeetsGuarded (b : Contents) (day : ℕ) (f : Rule) (m : List Entry) (x y : List Bool) : Type 0 where
  pub holds_there : holds f x ≡ true
  pub meets : (k : ℕ) (e : Entry) → slice_get m k ≡ Some e → has y (length b.codes + k) ≡ true → meets_entry b day x e ≡ true

pub record IsGuarding (b : Contents) (day : ℕ) (f : Rule) (m : List Entry) (s : Solving) : Type 0 where
  pub test : List Bool → Bool
  pub sets : GuardedSets (length b.codes) (length b.codes + length m) test s
  pub passes : (x kept : List Bool) → length x ≡ length b.codes → length kept ≡ length m → MeetsKept b day x m kept → holds f x ≡ true
      → (y : List Bool) × ((length y ≡ length b.codes + length m) × (test y ≡ true) × ((k : ℕ) → k < length m → has y (length b.codes + k) ≡ has kept k))
  pub reads : (x y : List Bool) → length y ≡ length b.codes + length m → ((i : ℕ) → i < length b.codes → has y i ≡ has x i) → test y ≡ true
      → MeetsGuarded b day f m x y

-- the literal says whether the guard of an entry is there: it is so where the entry is kept, but for that at one place
pub record IsGuardOf (n : ℕ) (kept : List Bool) (but l : ℕ) : Type 0 where
  pub place : ℕ
  pub inside : place < length kept
  pub is : l ≡ literal (n + place) (has kept place && not (place == but))

abbrev pub AreGuards : ℕ → List Bool → ℕ → List ℕ → Type 0
AreGuards n kept but lits = (l : ℕ) → has_literal lits l ≡ true → IsGuardOf n kept but l

pub record AreAllGuards (n : ℕ) (kept : List Bool) (but : ℕ) (lits : List ℕ) : Type 0 where
  pub only : AreGuards n kept but lits
  pub each : (place : ℕ) → place < length kept → has_literal lits (literal (n + place) (has kept place && not (place == but))) ≡ true

pub record IsLeftBut (b : Contents) (day : ℕ) (f : Rule) (m : List Entry) (kept : List Bool) (but budget : ℕ) : Type 0 where
  pub solver : Solving
  pub guarding : IsGuarding b day f m solver
  pub lits : List ℕ
  pub guards : AreAllGuards (length b.codes) kept but lits
  pub learnt : List (List ℕ)
  pub spent : IsSpent solver.vars (given_of solver.kernel) lits budget learnt
