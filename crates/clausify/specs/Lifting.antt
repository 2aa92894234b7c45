-- What the clauses of a slice say of the sets of codes: they are satisfied over just the sets that are good on its days, over
-- each in one way, and the literal of each question is then the truth of its goal.
--     BeginsWith x a         the variables of the codes are the set
--     GoalsTrue ..           the literal of each question is the truth of its goal
--     IsLifted ..            the one assignment that begins with the set and satisfies the clauses
--     CodesSlice ..          all of it
--     CodesJust ..           of other clauses, of which just the sets that pass a test begin a satisfying assignment
--     UsagesTrue ..          the literal of each usage is the truth of its formula
--     DecidesEach b s c      each question has a set just where some satisfying assignment meets its goal's literal
use Rattle.std.specs.Prelude.{◌≡◌, ◌↔◌, ℕ, ◌<◌, Bool, true, List, Some, length, slice_get, IsTrue}
use Rattle.std.specs.List.{AllByRecursion}
use Rattle.pb_base.specs.Rule.{holds}
use Rattle.pb_base.specs.Sets.{has}
use Rattle.book_model.specs.Activity.{is_within}
use Rattle.book_model.specs.Contents.{Contents}
use Rattle.book_model.specs.Good.{is_good}
use Rattle.book_model.specs.declared.record.Slice.{Slice}
use Rattle.clause_pool.specs.Literal.{is_true}
use Rattle.clause_pool.specs.Clause.{Sat}
use Rattle.clausify.specs.Choices.{usage}
use Rattle.clausify.specs.Questions.{goal, HasSet}
use Rattle.clausify.specs.declared.question.Asked.{Asked}
use Rattle.clausify.specs.declared.question.Coded.{Coded}
use Rattle.clausify.specs.declared.usage.Usage.{Usage}

abbrev pub BeginsWith : List Bool → (ℕ → Bool) → Type 0
BeginsWith x a = (i : ℕ) → i < length x → a i ≡ has x i

abbrev pub GoalsTrue : Contents → ℕ → List Bool → (ℕ → Bool) → List Asked → Type 0
GoalsTrue b day x a asked = AllByRecursion (λ q. is_true a q.goal ≡ holds (goal b day q.question) x) asked

abbrev pub UsagesTrue : Contents → List Bool → (ℕ → Bool) → List Usage → Type 0
UsagesTrue b x a us = AllByRecursion (λ u. is_true a u.literal ≡ holds (usage b u.variant) x) us

-- the one assignment, up to so many variables, that begins with the set and satisfies the clauses
pub record IsExtended (clauses : List (List ℕ)) (variables : ℕ) (x : List Bool) (a : ℕ → Bool) : Type 0 where
  pub begins : BeginsWith x a
  pub satisfies : Sat clauses a
  pub alone : (c : ℕ → Bool) → BeginsWith x c → Sat clauses c → (v : ℕ) → v < variables → c v ≡ a v

pub record CodesJust (n : ℕ) (test : List Bool → Bool) (clauses : List (List ℕ)) (variables : ℕ) : Type 0 where
  pub lifts : (x : List Bool) → length x ≡ n → test x ≡ true → (a : ℕ → Bool) × IsExtended clauses variables x a
  pub begins_so : (a : ℕ → Bool) (x : List Bool) → length x ≡ n → BeginsWith x a → Sat clauses a → test x ≡ true

pub record IsLifted (b : Contents) (day : ℕ) (clauses : List (List ℕ)) (variables : ℕ) (asked : List Asked) (x : List Bool) (a : ℕ → Bool) : Type 0 where
  pub begins : BeginsWith x a
  pub satisfies : Sat clauses a
  pub goals : GoalsTrue b day x a asked
  pub alone : (c : ℕ → Bool) → BeginsWith x c → Sat clauses c → (v : ℕ) → v < variables → c v ≡ a v

-- what a satisfying assignment begins with
pub record BeginsGood (b : Contents) (day : ℕ) (asked : List Asked) (x : List Bool) (a : ℕ → Bool) : Type 0 where
  pub is_good_then : is_good b day x ≡ true
  pub goals : GoalsTrue b day x a asked

-- on one day
pub record CodesGoodSets (b : Contents) (day : ℕ) (clauses : List (List ℕ)) (variables : ℕ) (asked : List Asked) : Type 0 where
  pub lifts : (x : List Bool) → is_good b day x ≡ true → (a : ℕ → Bool) × IsLifted b day clauses variables asked x a
  pub begins_good : (a : ℕ → Bool) (x : List Bool) → length x ≡ length b.codes → BeginsWith x a → Sat clauses a → BeginsGood b day asked x a

-- on each day of the slice
pub record CodesSlice (b : Contents) (s : Slice) (c : Coded) : Type 0 where
  pub on_each_day : (day : ℕ) → IsTrue (is_within s.first s.last day) → CodesGoodSets b day c.pool.clauses c.vars c.questions.items

-- some assignment satisfies the clauses and makes the literal true
pub record IsMet (clauses : List (List ℕ)) (goal : ℕ) : Type 0 where
  pub assignment : ℕ → Bool
  pub satisfies : Sat clauses assignment
  pub meets : is_true assignment goal ≡ true

-- the k-th question has a set just where the clauses are met with the literal of its goal
abbrev pub DecidesEach : Contents → Slice → Coded → Type 0
DecidesEach b s c = (k : ℕ) (q : Asked) → slice_get c.questions.items k ≡ Some q
    → HasSet b s q.question ↔ IsMet c.pool.clauses q.goal
