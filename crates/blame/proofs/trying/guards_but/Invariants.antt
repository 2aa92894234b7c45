use Rattle.std.proofs.Common.{◌≡◌, ◌==◌, ℕ, ◌+◌, ◌<◌, ◌≤◌, ◌&&◌, not, true, length}
use Rattle.pb_base.specs.Sets.{has}
use Rattle.clause_pool.specs.Literal.{literal}
use Rattle.clause_pool.specs.Clause.{has as has_literal}
use Rattle.blame.specs.Guards.{AreGuards}
use Rattle.blame.proofs.trying.guards_but.Given as goal

-- the guards from a place on
abbrev pub invariant-loop-left : goal.invariant-loop-left
invariant-loop-left l = record {
  inside : l.left ≤ length l.kept;
  only : AreGuards l.first l.kept l.but l.lits.items;
  each : (place : ℕ) → l.left ≤ place → place < length l.kept
      → has_literal l.lits.items (literal (l.first + place) (has l.kept place && not (place == l.but))) ≡ true;
}

abbrev pub decreases-loop-left : goal.decreases-loop-left
decreases-loop-left l = l.left
