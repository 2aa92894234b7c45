-- What a search answers about assumed literals over given clauses, and why each answer may be believed.
--     AreHeld assumptions lits          each assumption is one of these literals
--     Begins given assumptions codes x  a set begins an assignment that satisfies the clauses with each assumption true
--     IsCore k assumptions at           a clause of a kernel has no literal but complements of assumptions
--     IsNew clauses assumptions c       a clause says what propagation over these clauses doesn't
--     IsSpent vars given assumptions budget learnt
--                                       so many learnt clauses over these variables, each of which follows and is new
use Rattle.std.specs.Prelude.{◌≡◌, ℕ, ◌*◌, ◌<◌, Bool, true, List, [], ◌++◌, Some, length, take, slice_get, slice_index_or}
use Rattle.pb_base.specs.Sets.{has as has_code}
use Rattle.clause_pool.specs.Literal.{complement, is_true}
use Rattle.clause_pool.specs.Clause.{has, AreBelow, Sat, Follows}
use Rattle.clause_pool.specs.Derivation.{Derivation}
use Rattle.propagate.specs.Trail.{OthersFalse}
use Rattle.propagate.specs.Quiet.{Quiet}

abbrev pub AreHeld : List ℕ → List ℕ → Type 0
AreHeld assumptions lits = (l : ℕ) → has assumptions l ≡ true → has lits l ≡ true

pub record Begins (given : List (List ℕ)) (assumptions : List ℕ) (codes : ℕ) (x : List Bool) : Type 0 where
  pub assignment : ℕ → Bool
  pub satisfied : Sat given assignment
  pub assumed : (l : ℕ) → has assumptions l ≡ true → is_true assignment l ≡ true
  pub counted : length x ≡ codes
  pub begins : (i : ℕ) → i < codes → assignment i ≡ has_code x i

-- its literals tell which assumptions can't hold together
pub record IsCore (k : Derivation) (assumptions : List ℕ) (at : ℕ) : Type 0 where
  pub clause : List ℕ
  pub there : slice_get k.clauses at ≡ Some clause
  pub complements : (l : ℕ) → has clause l ≡ true → has assumptions (complement l) ≡ true

-- for one of its literals there is a quiet set that holds each assumption, in which the clause's other literals are
-- false and this one is neither true nor false
pub record IsNew (clauses : List (List ℕ)) (assumptions c : List ℕ) : Type 0 where
  pub quiet_set : List ℕ
  pub open_literal : ℕ
  pub is_in : has c open_literal ≡ true
  pub quiet : Quiet clauses quiet_set
  pub assumed : AreHeld assumptions quiet_set
  pub others_false : OthersFalse quiet_set c open_literal
  pub not_true : has quiet_set open_literal ≡ true → ⊥
  pub not_false : has quiet_set (complement open_literal) ≡ true → ⊥

pub record IsLearnt (clauses : List (List ℕ)) (assumptions c : List ℕ) : Type 0 where
  pub follows : Follows clauses c
  pub is_new : IsNew clauses assumptions c

pub record IsSpent (vars : ℕ) (given : List (List ℕ)) (assumptions : List ℕ) (budget : ℕ) (learnt : List (List ℕ)) : Type 0 where
  pub count : length learnt ≡ budget
  -- they speak of no other variables
  pub below : AreBelow (2 * vars) learnt
  pub each : (k : ℕ) → k < budget
      → IsLearnt (given ++ take k learnt) assumptions (slice_index_or learnt k [])
