-- What a source of questions computes, and what it owes.
--     goal_at f qs place    the literal that asks of the question at a place
--     MeetsGoal clauses g   an assignment satisfies the clauses with the literal g true
--     IsLawful f IsPosed MayShow    the clauses say what the questions ask for
use Rattle.std.specs.Prelude.{◌≡◌, ℕ, ◌+◌, ◌*◌, ◌^◌, ◌<◌, ◌≤◌, Bool, true, List, Some, length, slice_get, slice_index_or}
use Rattle.std.specs.List.{AllByRecursion, sum_by}
use Rattle.pb_base.specs.Sets.{has as has_code}
use Rattle.clause_pool.specs.Literal.{is_true}
use Rattle.clause_pool.specs.Clause.{AreBelow, Sat}

-- of questions of some kind
pub record Form (Q : Type 0) : Type 0 where
  -- how many codes a set speaks of
  pub codes : ℕ
  -- whether a set shows what a question asks for
  pub shows : Q → List Bool → Bool
  -- the clauses of questions that share a solver, the number of their variables, and for each question the literal that asks of it
  pub clauses : List Q → List (List ℕ)
  pub variables : List Q → ℕ
  pub goals : List Q → List ℕ
  -- how many variables the shared clauses have at most, and how many each question adds at most
  pub shared : ℕ
  pub size : Q → ℕ

abbrev pub goal_at : {Q : Type 0} → Form Q → List Q → ℕ → ℕ
goal_at f qs place = slice_index_or (f.goals qs) place 0

pub record MeetsGoal (clauses : List (List ℕ)) (g : ℕ) : Type 0 where
  pub assignment : ℕ → Bool
  pub satisfies : Sat clauses assignment
  pub meets_it : is_true assignment g ≡ true

-- for questions that may be put
pub record IsLawful {Q : Type 0} (f : Form Q) (IsPosed : Q → Type 0) (MayShow : List Bool → Type 0) : Type 0 where
  pub below : (qs : List Q) → AllByRecursion IsPosed qs → AreBelow (2 * f.variables qs) (f.clauses qs)
  pub codes_within : (qs : List Q) → f.codes ≤ f.variables qs
  pub goals_counted : (qs : List Q) → length (f.goals qs) ≡ length qs
  pub goals_below : (qs : List Q) → AllByRecursion IsPosed qs → (place : ℕ) → place < length qs → goal_at f qs place < 2 * f.variables qs
  -- a set that shows what a question asks for can be continued to an assignment that satisfies all clauses with the question's goal
  pub lifts : (qs : List Q) → AllByRecursion IsPosed qs → (place : ℕ) (q : Q) → slice_get qs place ≡ Some q → (x : List Bool) → length x ≡ f.codes
      → f.shows q x ≡ true → MeetsGoal (f.clauses qs) (goal_at f qs place)
  -- and each such assignment begins with a set that does
  pub reads : (qs : List Q) → AllByRecursion IsPosed qs → (place : ℕ) (q : Q) → slice_get qs place ≡ Some q → (x : List Bool) (a : ℕ → Bool) → length x ≡ f.codes
      → ((i : ℕ) → i < f.codes → a i ≡ has_code x i) → Sat (f.clauses qs) a → is_true a (goal_at f qs place) ≡ true → f.shows q x ≡ true
  -- a set that shows what one question asks for may be tried on others
  pub may_show : (q : Q) → IsPosed q → (x : List Bool) → length x ≡ f.codes → f.shows q x ≡ true → MayShow x
  pub added : (qs : List Q) → AllByRecursion IsPosed qs → f.variables qs ≤ f.shared + sum_by f.size qs
  pub shared_few : f.shared ≤ 2 ^ 30
  pub size_few : (q : Q) → IsPosed q → f.size q ≤ 2 ^ 30
