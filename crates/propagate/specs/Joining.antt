-- What attaching a clause does to what is true and what is watched.
--     Joined s t c               the clause stands behind the others, and all that was held is held
use Rattle.std.specs.Prelude.{◌≡◌, ℕ, ◌<◌, List, [], ◌∷◌, ◌++◌, length}
use Rattle.propagate.specs.Watching.{Visits, IsVisiting, IsHeld, AreHeld, Grown, AreReasons}
use Rattle.propagate.specs.Visiting.{Scene}
use Rattle.propagate.specs.Trail.{Trail}

-- the trail that contracts see
abbrev pub trail_of : Scene → Trail
trail_of s = record {
  vars = s.assigned.vars;
  clauses = s.watching.clauses;
  lits = s.assigned.lits;
  reasons = s.assigned.reasons;
  starts = s.assigned.starts;
}

pub record Joined (s t : Scene) (c : List ℕ) : Type 0 where
  pub grown : Grown s.assigned t.assigned
  pub clauses : t.watching.clauses ≡ s.watching.clauses ++ c ∷ []
  pub same_count : length t.watching.lists ≡ length s.watching.lists
  pub reasoned : AreReasons s.watching.clauses s.assigned → AreReasons t.watching.clauses t.assigned
  pub before : (v : Visits) (k : ℕ) → IsVisiting s.assigned v → AreHeld s.assigned v s.watching
      → k < length s.watching.clauses → IsHeld t.assigned v t.watching k
