-- What an engine keeps, and what a run over its trail does.
--     IsEngine s v refuted       how the parts of an engine fit together
--     Ran s t from to            the trail was visited from one place to another
use Rattle.std.specs.Prelude.{◌≡◌, ℕ, ◌+◌, ◌^◌, ◌<◌, ◌≤◌, true, List, Option, Some, None, length, take}
use Rattle.clause_pool.specs.Clause.{has}
use Rattle.propagate.specs.Trail.{AllFalse, OpenedLevels}
use Rattle.propagate.specs.Assignment.{Assigned, end_of}
use Rattle.propagate.specs.Watching.{Visits, IsVisiting, AreHeld, AreReasons, Grown, clause_at}
use Rattle.propagate.specs.Visiting.{Scene}

-- what has no reason opened a level
abbrev pub AreDecided : Assigned → Type 0
AreDecided a = OpenedLevels a.lits a.reasons a.starts

abbrev pub visits : List ℕ → ℕ → Visits
visits heads head = record { heads = heads; head = head }

pub record IsEngine (s : Scene) (v : Visits) (refuted : Option ℕ) : Type 0 where
  pub codes : length s.watching.lists ≡ s.assigned.vars + s.assigned.vars
  pub small : s.assigned.vars < 2 ^ 31
  pub few : length s.watching.clauses ≤ 2 ^ 32
  pub below : (k l : ℕ) → has (clause_at s.watching.clauses k) l ≡ true → l < length s.watching.lists
  pub reasoned : AreReasons s.watching.clauses s.assigned
  pub decided : AreDecided s.assigned
  pub visiting : IsVisiting s.assigned v
  pub held : refuted ≡ None → AreHeld s.assigned v s.watching
  -- a clause that is false without any assumption
  pub is_attached : (k : ℕ) → refuted ≡ Some k → k < length s.watching.clauses
  pub is_false : (k : ℕ) → refuted ≡ Some k
      → AllFalse (take (end_of s.assigned 0) s.assigned.lits) (clause_at s.watching.clauses k)

pub record Ran (s t : Scene) (from to : ℕ) : Type 0 where
  pub grown : Grown s.assigned t.assigned
  pub same_clauses : t.watching.clauses ≡ s.watching.clauses
  pub same_count : length t.watching.lists ≡ length s.watching.lists
  pub reasoned : AreReasons s.watching.clauses s.assigned → AreReasons s.watching.clauses t.assigned
  pub visiting : (heads : List ℕ) → IsVisiting s.assigned (visits heads from)
      → IsVisiting t.assigned (visits heads to)
  pub held : (heads : List ℕ) → IsVisiting s.assigned (visits heads from)
      → AreHeld s.assigned (visits heads from) s.watching → AreHeld t.assigned (visits heads to) t.watching
