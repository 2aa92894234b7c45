-- What the search keeps.
--     IsReady clauses t marks       all clauses are attached, and nothing is marked
--     IsKept clauses t marks        the first of the clauses are attached; so it is also after want of memory
--     IsSettled t                   the levels before the current one are quiet
--     IsAssumed assumptions depth t at this level and above it all assumptions hold
--     AreOpened assumptions t       only assumptions were assumed
--     IsAsserting t c at            a clause has one literal of the current level, the others are false before
--     IsJump t c u n                a clause forces its literal u at level n, and at no level before
--     IsFalseAt t at                a clause is false
--     IsClosing t assumptions at    a clause shows that the assumptions can't hold together
--     IsLearning t at               a clause is false, and wasn't before the current level
--     IsFull t                      every variable has a value
--     AllNew assumptions first clauses
--                                   all clauses from one place on are new over those before
use Rattle.std.specs.Prelude.{◌≡◌, ◌⊎◌, ℕ, ◌+◌, ◌-◌, ◌*◌, ◌<◌, ◌≤◌, Bool, true, List, [], ◌∷◌, ◌++◌, None, length, take, slice_index, slice_index_or}
use Rattle.clause_pool.specs.Literal.{complement}
use Rattle.clause_pool.specs.Clause.{has, AreBelow}
use Rattle.clause_pool.specs.Derivation.{Derivation}
use Rattle.clause_pool.specs.Marks.{marked}
use Rattle.propagate.specs.Trail.{Trail, level, end_of, upto, IsFalse, OthersFalse, AllFalse}
use Rattle.propagate.specs.Quiet.{Quiet}
use Rattle.solver.specs.Answer.{AreHeld, IsNew}
use Rattle.solver.specs.Marks.{AreClear, start_of, false_at}

pub record IsReady (clauses : List (List ℕ)) (t : Trail) (marks : List Bool) : Type 0 where
  pub attached : t.clauses ≡ clauses
  pub below : AreBelow (2 * t.vars) clauses
  pub table : length marks ≡ 2 * t.vars
  pub clear : AreClear marks

pub record IsKept (clauses : List (List ℕ)) (t : Trail) (marks : List Bool) : Type 0 where
  pub attached : t.clauses ≡ take (length t.clauses) clauses
  pub below : AreBelow (2 * t.vars) clauses
  pub table : length marks ≡ 2 * t.vars

pub record IsSettled (t : Trail) : Type 0 where
  pub quiet : (n : ℕ) → n < level t → Quiet t.clauses (upto t n)
  pub counted : (n : ℕ) → n ≤ level t → n ≤ end_of t n

-- what was assumed up to this level is one of the assumptions
pub record IsAssumed (assumptions : List ℕ) (depth : ℕ) (t : Trail) : Type 0 where
  pub held : (n : ℕ) → depth ≤ n → n ≤ level t → AreHeld assumptions (upto t n)
  pub opened : (k : ℕ) → k < end_of t depth → slice_index_or t.reasons k None ≡ None
      → has assumptions (slice_index t.lits k) ≡ true

abbrev pub AreOpened : List ℕ → Trail → Type 0
AreOpened assumptions t =
    (k : ℕ) → k < length t.lits → slice_index_or t.reasons k None ≡ None
    → has assumptions (slice_index t.lits k) ≡ true

-- the clause was appended, and just its literals are marked
pub record IsAppended (old new : Derivation) (marks : List Bool) : Type 0 where
  pub clause : List ℕ
  pub clauses : new.clauses ≡ old.clauses ++ clause ∷ []
  pub same_number : new.given ≡ old.given
  pub literals : (l : ℕ) → marked marks l ≡ has clause l

-- all clauses but the last are attached
pub record IsNext (clauses : List (List ℕ)) (t : Trail) : Type 0 where
  pub one_more : length clauses ≡ length t.clauses + 1
  pub attached : t.clauses ≡ take (length t.clauses) clauses

abbrev pub next_of : List (List ℕ) → Trail → List ℕ
next_of clauses t = slice_index_or clauses (length t.clauses) []

pub record IsAsserting (t : Trail) (c : List ℕ) (at : ℕ) : Type 0 where
  pub within : at < length t.lits
  pub late : start_of t ≤ at
  pub is_in : has c (false_at t.lits at) ≡ true
  pub others_false : OthersFalse (take (start_of t) t.lits) c (false_at t.lits at)

-- the clause that was learnt last: it is new, and asserts the literal against this place of the trail
pub record IsLesson (old new : Derivation) (t : Trail) (at : ℕ) : Type 0 where
  pub clause : List ℕ
  pub clauses : new.clauses ≡ old.clauses ++ clause ∷ []
  pub asserting : IsAsserting t clause at
  pub is_new : (assumptions : List ℕ) → AreHeld assumptions (take (start_of t) t.lits)
      → IsNew old.clauses assumptions clause

pub record IsJump (t : Trail) (c : List ℕ) (u n : ℕ) : Type 0 where
  pub below : n < level t
  pub others_false : OthersFalse (upto t n) c u
  pub first : 0 < n → (l : ℕ) × (has c l ≡ true) × (l ≡ u → ⊥) × (IsFalse (upto t (n - 1)) l → ⊥)

pub record IsFalseAt (t : Trail) (at : ℕ) : Type 0 where
  pub attached : at < length t.clauses
  pub all_false : AllFalse t.lits (slice_index_or t.clauses at [])

-- each literal of the clause is false, or is the complement of an assumption
pub record IsClosing (t : Trail) (assumptions : List ℕ) (at : ℕ) : Type 0 where
  pub attached : at < length t.clauses
  pub others_false : (l : ℕ) → has (slice_index_or t.clauses at []) l ≡ true
      → (has assumptions (complement l) ≡ true → ⊥) → IsFalse t.lits l
  pub opened : AreOpened assumptions t

-- a clause is false, and wasn't before the current level
pub record IsLearning (t : Trail) (at : ℕ) : Type 0 where
  pub attached : at < length t.clauses
  pub all_false : AllFalse t.lits (slice_index_or t.clauses at [])
  pub quiet : Quiet t.clauses (take (start_of t) t.lits)

-- every variable has a value, and no clause has anything to say
pub record IsFull (t : Trail) : Type 0 where
  pub quiet : Quiet t.clauses t.lits
  pub total : (v : ℕ) → v < t.vars → (has t.lits (2 * v) ≡ true) ⊎ (has t.lits (2 * v + 1) ≡ true)

-- how far a search without conflicts can still go
abbrev pub left_of : Trail → ℕ
left_of t = t.vars - length t.lits

abbrev pub AllNew : List ℕ → ℕ → List (List ℕ) → Type 0
AllNew assumptions first clauses =
    (k : ℕ) → first ≤ k → k < length clauses → IsNew (take k clauses) assumptions (slice_index_or clauses k [])
