-- Which clauses are looked at when a literal becomes false, and what that keeps.
--     Watching                   the clauses, what each watches, and the entries by literal
--     IsWatching w               what an entry says is so
--     IsVisited ..               where a watched literal was seen to be false, the clause has a true literal
--     IsHeld ..                  why a clause needn't be looked at before one that it watches becomes false
--     Keeps ..                   what a look at an entry keeps
use Rattle.std.specs.Prelude.{◌≡◌, ◌⊎◌, ℕ, ◌+◌, ◌<◌, ◌≤◌, ◌==◌, true, List, [], ◌++◌, Some, length, map, take, slice_get, slice_index_or}
use Rattle.std.specs.List.{AllByRecursion, list_any}
use Rattle.clause_pool.specs.Literal.{complement}
use Rattle.clause_pool.specs.Clause.{has}
use Rattle.propagate.specs.Trail.{AreReasoned}
use Rattle.propagate.specs.Assignment.{Assigned, end_of}
use Rattle.propagate.specs.declared.watch.Watch.{Watch}
use Rattle.propagate.specs.declared.watch.Watched.{Watched}

-- some literal of the clause is true
abbrev pub HasTrue : List ℕ → List ℕ → Type 0
HasTrue lits c = (l : ℕ) × (has c l ≡ true) × (has lits l ≡ true)

pub record Watching : Type 0 where
  pub clauses : List (List ℕ)
  pub watched : List Watched
  pub lists : List (List Watch)

abbrev pub clause_at : List (List ℕ) → ℕ → List ℕ
clause_at clauses k = slice_index_or clauses k []

-- what a clause has that watches nothing
abbrev pub no_pair : Watched
no_pair = record { first = 0; second = 0 }

-- the two literals that a clause watches
abbrev pub pair_of : Watching → ℕ → Watched
pair_of w k = slice_index_or w.watched k no_pair

abbrev pub AreApart : Watched → Type 0
AreApart pair = pair.first ≡ pair.second → ⊥

-- the literal is one of the two
abbrev pub IsOneOf : Watched → ℕ → Type 0
IsOneOf pair l = (l ≡ pair.first) ⊎ (l ≡ pair.second)

-- the list at this place
abbrev pub list_in : List (List Watch) → ℕ → List Watch
list_in lists code = slice_index_or lists code []

-- the entries of a literal
abbrev pub list_of : Watching → ℕ → List Watch
list_of w code = list_in w.lists code

-- the entry at this place of a literal's list
abbrev pub IsEntryAt : Watching → ℕ → ℕ → Watch → Type 0
IsEntryAt w code at entry = slice_get (list_of w code) at ≡ Some entry

-- the clause of that entry has this literal
abbrev pub HasAt : Watching → ℕ → ℕ → ℕ → Type 0
HasAt w code at l = (e : Watch) → IsEntryAt w code at e → has (clause_at w.clauses e.clause) l ≡ true

pub record IsPairIn (c : List ℕ) (pair : Watched) : Type 0 where
  pub first_in : has c pair.first ≡ true
  pub second_in : has c pair.second ≡ true
  pub apart : AreApart pair

-- what an entry says of its clause
pub record EntryFits (w : Watching) (code : ℕ) (entry : Watch) : Type 0 where
  pub attached : entry.clause < length w.clauses
  pub blocks : has (clause_at w.clauses entry.clause) entry.blocker ≡ true
  pub binary : entry.is_binary ≡ true → (l : ℕ) → has (clause_at w.clauses entry.clause) l ≡ true
      → (l ≡ code) ⊎ (l ≡ entry.blocker)
  pub pair : IsPairIn (clause_at w.clauses entry.clause) (pair_of w entry.clause)

pub record IsWatching (w : Watching) : Type 0 where
  pub counted : length w.watched ≡ length w.clauses
  pub entries : (code : ℕ) → AllByRecursion (EntryFits w code) (list_of w code)
  pub below : (k l : ℕ) → has (clause_at w.clauses k) l ≡ true → l < length w.lists

-- the list of the literal has an entry of this clause
abbrev pub IsListed : Watching → ℕ → ℕ → Type 0
IsListed w code k = list_any (λ entry. entry.clause == k) (list_of w code) ≡ true

-- how far the trail was visited: at each level when the next was opened, and now
pub record Visits : Type 0 where
  pub heads : List ℕ
  pub head : ℕ

abbrev pub head_of : Visits → ℕ → ℕ
head_of v n = slice_index_or v.heads n v.head

abbrev pub IsVisited : Assigned → Visits → List ℕ → ℕ → Type 0
IsVisited a v c code =
    (n : ℕ) → n ≤ length a.starts → has (take (head_of v n) a.lits) (complement code) ≡ true
    → HasTrue (take (end_of a n) a.lits) c

-- a literal that the clause watches
pub record IsWatched (a : Assigned) (v : Visits) (w : Watching) (k code : ℕ) : Type 0 where
  pub is_in : has (clause_at w.clauses k) code ≡ true
  pub listed : IsListed w code k
  pub visited : IsVisited a v (clause_at w.clauses k) code

pub record IsPaired (a : Assigned) (v : Visits) (w : Watching) (k : ℕ) : Type 0 where
  pub apart : AreApart (pair_of w k)
  pub first : IsWatched a v w k (pair_of w k).first
  pub second : IsWatched a v w k (pair_of w k).second

-- a literal of the clause is true for good, or it watches two of its literals
pub data IsHeld (a : Assigned) (v : Visits) (w : Watching) (k : ℕ) : Type 0 where
  fixed : HasTrue (take (end_of a 0) a.lits) (clause_at w.clauses k) → IsHeld a v w k
  paired : IsPaired a v w k → IsHeld a v w k

abbrev pub AreHeld : Assigned → Visits → Watching → Type 0
AreHeld a v w = (k : ℕ) → k < length w.clauses → IsHeld a v w k

-- no literal is visited before it is on the trail
pub record IsVisiting (a : Assigned) (v : Visits) : Type 0 where
  pub counted : length v.heads ≡ length a.starts
  pub within : (n : ℕ) → n ≤ length a.starts → head_of v n ≤ end_of a n
  pub ends : (n : ℕ) → n ≤ length a.starts → end_of a n ≤ length a.lits

-- more literals are true, each for a clause
pub record Grown (old new : Assigned) : Type 0 where
  pub more : List ℕ
  pub why : List ℕ
  pub counted : length why ≡ length more
  pub is : new ≡ record {
    vars = old.vars;
    lits = old.lits ++ more;
    reasons = old.reasons ++ map Some why;
    starts = old.starts;
  }

-- the reasons are reasons
abbrev pub AreReasons : List (List ℕ) → Assigned → Type 0
AreReasons clauses a = AreReasoned clauses a.lits a.reasons

pub record Keeps (a b : Assigned) (w x : Watching) : Type 0 where
  pub grown : Grown a b
  pub same_clauses : x.clauses ≡ w.clauses
  pub same_count : length x.lists ≡ length w.lists
  pub reasoned : AreReasons w.clauses a → AreReasons w.clauses b
  pub held : (v : Visits) → IsVisiting a v → AreHeld a v w → AreHeld b v x

-- the clauses of the first so many entries of a literal have a true literal
abbrev pub AreTrue : Assigned → Watching → ℕ → ℕ → Type 0
AreTrue a w code n =
    AllByRecursion (λ entry. HasTrue a.lits (clause_at w.clauses entry.clause)) (take n (list_of w code))

-- the entry at this place of a literal's list is gone, and the clause watches another literal in its place
pub record Shifted (w x : Watching) (code at : ℕ) : Type 0 where
  pub same_clauses : x.clauses ≡ w.clauses
  pub same_count : length x.lists ≡ length w.lists
  pub shorter : length (list_of x code) + 1 ≡ length (list_of w code)
  pub before : take at (list_of x code) ≡ take at (list_of w code)

-- the clause watches these two, where one was watched before
pub record Watches (w x : Watching) (k other open_literal : ℕ) : Type 0 where
  pub pair : pair_of x k ≡ record { first = other; second = open_literal }
  pub pairs : (j : ℕ) → (j ≡ k → ⊥) → pair_of x j ≡ pair_of w j
  pub listed : IsListed x open_literal k
  pub still : IsListed w other k → IsListed x other k
  pub others : (code j : ℕ) → (j ≡ k → ⊥) → IsListed w code j → IsListed x code j
