-- A trail: the literals that are true, in the order in which they became so.
--     Trail                 what a contract sees of an engine
--     end_of t n            where the literals of the levels up to n end
--     upto t n              the literals of the levels up to n
--     AreLiterals c n          each literal of the clause is below n
--     IsTrail t             what a trail keeps
use Rattle.std.specs.Prelude.{◌≡◌, ℕ, ◌*◌, ◌/◌, ◌<◌, ◌≤◌, true, List, [], Option, Some, None, length, map, nat_eq, take, slice_index, slice_index_or}
use Rattle.std.specs.List.{IsDistinct}
use Rattle.clause_pool.specs.Literal.{complement}
use Rattle.clause_pool.specs.Clause.{has}

pub record Trail : Type 0 where
  -- the number of variables
  pub vars : ℕ
  -- the clauses that were attached, in order
  pub clauses : List (List ℕ)
  -- the literals that are true, the earliest first
  pub lits : List ℕ
  -- for each of them the place of the clause that made it true, or none where it was assumed
  pub reasons : List (Option ℕ)
  -- for each level from 1 on, the number of literals before it
  pub starts : List ℕ

-- how many levels are open
abbrev pub level : Trail → ℕ
level t = length t.starts

-- where the literals of the levels up to n end
abbrev pub end_of : Trail → ℕ → ℕ
end_of t n = slice_index_or t.starts n (length t.lits)

-- the literals of the levels up to n
abbrev pub upto : Trail → ℕ → List ℕ
upto t n = take (end_of t n) t.lits

-- whether a literal is false over these true ones
abbrev pub IsFalse : List ℕ → ℕ → Type 0
IsFalse lits l = has lits (complement l) ≡ true

-- each literal of the clause but x is false
abbrev pub OthersFalse : List ℕ → List ℕ → ℕ → Type 0
OthersFalse lits c x = (l : ℕ) → has c l ≡ true → (l ≡ x → ⊥) → IsFalse lits l

-- each literal of the clause is false
abbrev pub AllFalse : List ℕ → List ℕ → Type 0
AllFalse lits c = (l : ℕ) → has c l ≡ true → IsFalse lits l

-- each literal of the clause is below n
abbrev pub AreLiterals : List ℕ → ℕ → Type 0
AreLiterals c n = (l : ℕ) → has c l ≡ true → l < n

-- the variable is nowhere among the literals
abbrev pub IsAbsent : List ℕ → ℕ → Type 0
IsAbsent lits var = (k : ℕ) → k < length lits → slice_index lits k / 2 ≡ var → ⊥

-- the levels begin one after the other
abbrev pub AreRising : List ℕ → Type 0
AreRising starts = (i j : ℕ) → i ≤ j → j < length starts → slice_index starts i ≤ slice_index starts j

-- a clause made this literal true: it has it, and its others were false before
pub record IsReason (clauses : List (List ℕ)) (before : List ℕ) (l at : ℕ) : Type 0 where
  pub attached : at < length clauses
  pub is_in : has (slice_index_or clauses at []) l ≡ true
  pub others_false : OthersFalse before (slice_index_or clauses at []) l

-- the reasons are reasons
abbrev pub AreReasoned : List (List ℕ) → List ℕ → List (Option ℕ) → Type 0
AreReasoned clauses lits reasons =
    (k at : ℕ) → k < length lits → slice_index_or reasons k None ≡ Some at
    → IsReason clauses (take k lits) (slice_index lits k) at

-- what has no reason opened a level
abbrev pub OpenedLevels : List ℕ → List (Option ℕ) → List ℕ → Type 0
OpenedLevels lits reasons starts =
    (k : ℕ) → k < length lits → slice_index_or reasons k None ≡ None
    → (n : ℕ) × (n < length starts) × (slice_index starts n ≡ k)

pub record IsTrail (t : Trail) : Type 0 where
  -- no variable is on the trail twice
  pub apart : IsDistinct nat_eq (map (λ l. l / 2) t.lits)
  pub below : (l : ℕ) → has t.lits l ≡ true → l < 2 * t.vars
  pub few_levels : length t.starts ≤ t.vars
  pub clauses_below : (at l : ℕ) → has (slice_index_or t.clauses at []) l ≡ true → l < 2 * t.vars
  pub rising : AreRising t.starts
  pub within : (i : ℕ) → i < length t.starts → slice_index t.starts i ≤ length t.lits
  pub reasons_counted : length t.reasons ≡ length t.lits
  pub reasoned : AreReasoned t.clauses t.lits t.reasons
  -- what was assumed opened a level
  pub decided : OpenedLevels t.lits t.reasons t.starts
