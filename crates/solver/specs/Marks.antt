-- A clause in the making: the chain so far, and a mark for each literal that its resolvent has.
--     IsChain clauses r             the chain has a resolvent, just its literals are marked, and all of them are noted
--     AreFalse lits marks           what is marked is false over these true literals
--     AreFalseUnless lits marks P   the same, unless P holds of it
--     AreFalseBut lits marks x      the same, but for one literal
--     AreFalseOrBlamed lits marks assumptions
--                                   the same, but for complements of assumptions
--     IsMarkedAt lits marks l end k a marked literal is the false one at a place before another
--     IsMarked old new c            the literals of a clause are marked besides
--     IsResolved old new x c        what a resolution on a literal with a clause does to the marks
--     IsResolvable t marks at       a false literal is marked and has a reason
--     IsUip t marks at              one literal of the current level is marked, the others are false before
use Rattle.std.specs.Prelude.{◌≡◌, ◌⊎◌, ℕ, ◌+◌, ◌-◌, ◌<◌, ◌≤◌, Bool, true, false, List, [], None, Some, Ok, length, take, slice_index, slice_index_or}
use Rattle.clause_pool.specs.Literal.{complement}
use Rattle.clause_pool.specs.Clause.{has}
use Rattle.clause_pool.specs.Chain.{chain}
use Rattle.clause_pool.specs.Marks.{marked, AreTouched}
use Rattle.propagate.specs.Trail.{Trail, level, end_of, IsFalse, IsReason}
use Rattle.solver.specs.declared.resolution.Resolution.{Resolution}
use Rattle.solver.specs.declared.conflict.Resolvable.{Resolvable}

abbrev pub AreClear : List Bool → Type 0
AreClear marks = (l : ℕ) → marked marks l ≡ false

pub record IsChain (clauses : List (List ℕ)) (r : Resolution) : Type 0 where
  pub running : List ℕ
  pub is_running : chain clauses r.start r.pairs.items ≡ Ok running
  pub marks_are : (l : ℕ) → marked r.marks.items l ≡ has running l
  pub all_touched : AreTouched r.marks.items r.touched.items

abbrev pub AreFalse : List ℕ → List Bool → Type 0
AreFalse lits marks = (l : ℕ) → marked marks l ≡ true → IsFalse lits l

abbrev pub AreFalseUnless : List ℕ → List Bool → (ℕ → Type 0) → Type 0
AreFalseUnless lits marks P = (l : ℕ) → marked marks l ≡ true → (P l → ⊥) → IsFalse lits l

abbrev pub AreFalseBut : List ℕ → List Bool → ℕ → Type 0
AreFalseBut lits marks x = AreFalseUnless lits marks (λ l. l ≡ x)

abbrev pub AreFalseOrBlamed : List ℕ → List Bool → List ℕ → Type 0
AreFalseOrBlamed lits marks assumptions = AreFalseUnless lits marks (λ l. has assumptions (complement l) ≡ true)

-- just the literals of a clause of the kernel are marked
pub record AreLiteralsAt (clauses : List (List ℕ)) (marks : List Bool) (at : ℕ) : Type 0 where
  pub within : at < length clauses
  pub literals : (l : ℕ) → marked marks l ≡ has (slice_index_or clauses at []) l

pub record IsMarked (old new : List Bool) (c : List ℕ) : Type 0 where
  pub counted : length new ≡ length old
  pub kept : (l : ℕ) → marked old l ≡ true → marked new l ≡ true
  pub taken : (l : ℕ) → has c l ≡ true → marked new l ≡ true
  pub origin : (l : ℕ) → marked new l ≡ true → (marked old l ≡ true) ⊎ (has c l ≡ true)

pub record IsUnmarked (old new : List Bool) (c : List ℕ) : Type 0 where
  pub counted : length new ≡ length old
  pub kept : (l : ℕ) → has c l ≡ false → marked new l ≡ marked old l
  pub gone : (l : ℕ) → has c l ≡ true → marked new l ≡ false

pub record IsResolved (old new : List Bool) (x : ℕ) (c : List ℕ) : Type 0 where
  pub kept : (l : ℕ) → marked old l ≡ true → (l ≡ x → ⊥) → marked new l ≡ true
  pub taken : (l : ℕ) → has c l ≡ true → (l ≡ complement x → ⊥) → marked new l ≡ true
  pub origin : (l : ℕ) → marked new l ≡ true
      → ((marked old l ≡ true) × (l ≡ x → ⊥)) ⊎ ((has c l ≡ true) × (l ≡ complement x → ⊥))

-- the false literal whose complement stands at a place of the trail
abbrev pub false_at : List ℕ → ℕ → ℕ
false_at lits k = complement (slice_index lits k)

-- a marked literal is the false one at a place before another
pub record IsMarkedAt (lits : List ℕ) (marks : List Bool) (l end k : ℕ) : Type 0 where
  pub before : k < end
  pub is : false_at lits k ≡ l
  pub is_in : marked marks l ≡ true

-- the literal at a place was resolved away by its reason
pub record IsResolvedAt (t : Trail) (at : ℕ) (old new : List Bool) : Type 0 where
  pub reason : ℕ
  pub is_reason : IsReason t.clauses (take at t.lits) (slice_index t.lits at) reason
  pub resolved : IsResolved old new (false_at t.lits at) (slice_index_or t.clauses reason [])

-- a false literal is marked and has a reason
pub record IsResolvable (t : Trail) (marks : List Bool) (at : Resolvable) : Type 0 where
  pub within : at.place < length t.lits
  pub is_in : marked marks (false_at t.lits at.place) ≡ true
  pub reason_is : slice_index_or t.reasons at.place None ≡ Some at.reason

-- the latest place from one place on and before another whose false literal is marked
pub record IsTop (lits : List ℕ) (marks : List Bool) (from end k : ℕ) : Type 0 where
  pub behind : from ≤ k
  pub before : k < end
  pub is_in : marked marks (false_at lits k) ≡ true
  pub none_above : (j : ℕ) → k < j → j < end → marked marks (false_at lits j) ≡ false

abbrev pub NoneMarked : List ℕ → List Bool → ℕ → ℕ → Type 0
NoneMarked lits marks from end = (j : ℕ) → from ≤ j → j < end → marked marks (false_at lits j) ≡ false

-- where the current level starts
abbrev pub start_of : Trail → ℕ
start_of t = end_of t (level t - 1)

pub record IsUip (t : Trail) (marks : List Bool) (at : ℕ) : Type 0 where
  pub within : at < length t.lits
  pub late : start_of t ≤ at
  pub is_in : marked marks (false_at t.lits at) ≡ true
  pub others : AreFalseBut (take (start_of t) t.lits) marks (false_at t.lits at)

-- on the way down the trail to it: the latest marked place, and a marked one at or below that
pub record IsResolving (t : Trail) (marks : List Bool) (place known : ℕ) : Type 0 where
  pub within : place < length t.lits
  pub order : known ≤ place
  pub false_here : AreFalse (take (place + 1) t.lits) marks
  pub is_in : marked marks (false_at t.lits place) ≡ true
  pub known_top : IsTop t.lits marks (start_of t) (known + 1) known
