-- What the calls of an engine do to its trail.
--     empty_trail vars       nothing is attached and nothing is true
--     Extends old new        further literals, each for a reason, at the same levels
--     with_clause t c        one more clause is attached
--     with_assumed t l       a new level that begins with this literal
--     cut t n                the levels behind n are gone
--     IsOpenAbove t c        a clause may be attached above level 0
--     IsLevelOf t var n      the level at which a variable came to the trail
use Rattle.std.specs.Prelude.{◌≡◌, ℕ, ◌-◌, ◌/◌, ◌<◌, ◌≤◌, true, List, [], ◌∷◌, ◌++◌, None, length, take, slice_index, slice_index_or, if◌then◌else◌}
use Rattle.clause_pool.specs.Clause.{has}
use Rattle.propagate.specs.Trail.{Trail, level, end_of, upto, IsFalse, IsAbsent}

abbrev pub empty_trail : ℕ → Trail
empty_trail vars = record { vars = vars; clauses = []; lits = []; reasons = []; starts = [] }

pub record Extends (old new : Trail) : Type 0 where
  pub same_vars : new.vars ≡ old.vars
  pub same_starts : new.starts ≡ old.starts
  pub longer : length old.lits ≤ length new.lits
  pub lits_kept : take (length old.lits) new.lits ≡ old.lits
  pub reasons_kept : take (length old.lits) new.reasons ≡ old.reasons
  pub derived : (k : ℕ) → length old.lits ≤ k → k < length new.lits
      → slice_index_or new.reasons k None ≡ None → ⊥

-- a level that begins with this literal; where it is true already, the level adds nothing
abbrev pub with_assumed : Trail → ℕ → Trail
with_assumed t l =
    if has t.lits l then record {
      vars = t.vars;
      clauses = t.clauses;
      lits = t.lits;
      reasons = t.reasons;
      starts = t.starts ++ length t.lits ∷ [];
    }
    else record {
      vars = t.vars;
      clauses = t.clauses;
      lits = t.lits ++ l ∷ [];
      reasons = t.reasons ++ None ∷ [];
      starts = t.starts ++ length t.lits ∷ [];
    }

-- the levels up to n alone
abbrev pub cut : Trail → ℕ → Trail
cut t n = record {
  vars = t.vars;
  clauses = t.clauses;
  lits = take (end_of t n) t.lits;
  reasons = take (end_of t n) t.reasons;
  starts = take n t.starts;
}

-- two literals of the clause aren't false, or one isn't and another became so at the current level
pub record IsOpenAbove (t : Trail) (c : List ℕ) : Type 0 where
  pub first : ℕ
  pub second : ℕ
  pub first_in : has c first ≡ true
  pub second_in : has c second ≡ true
  pub apart : first ≡ second → ⊥
  pub first_open : IsFalse t.lits first → ⊥
  pub second_late : IsFalse (upto t (level t - 1)) second → ⊥

-- the place on the trail is at this level
pub record IsAtLevel (t : Trail) (k n : ℕ) : Type 0 where
  pub not_over : n ≤ level t
  pub before_end : k < end_of t n
  pub behind_start : (m : ℕ) → m < n → end_of t m ≤ k

-- at the place of the variable on the trail
abbrev pub IsLevelOf : Trail → ℕ → ℕ → Type 0
IsLevelOf t var n = (k : ℕ) × (k < length t.lits) × (slice_index t.lits k / 2 ≡ var) × IsAtLevel t k n

-- the variable is nowhere on the trail
abbrev pub IsOpen : Trail → ℕ → Type 0
IsOpen t var = IsAbsent t.lits var
