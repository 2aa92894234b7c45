-- What a further clause leaves as it was.
--     Attached w x c pair        one more clause, which watches this pair
use Rattle.std.specs.Prelude.{◌≡◌, ℕ, ◌-◌, ◌<◌, List, [], ◌∷◌, ◌++◌, length, take, slice_set}
use Rattle.propagate.specs.Watching.{Watching, pair_of, list_in, IsListed}
use Rattle.propagate.specs.declared.watch.Watch.{Watch}
use Rattle.propagate.specs.declared.watch.Watched.{Watched}

-- one more entry in the list at this place
abbrev pub pushed_at : List (List Watch) → ℕ → Watch → List (List Watch)
pushed_at lists code entry = slice_set lists code (list_in lists code ++ entry ∷ [])

-- the list at this place is without its last entry
abbrev pub popped_at : List (List Watch) → ℕ → List (List Watch)
popped_at lists code = slice_set lists code (take (length (list_in lists code) - 1) (list_in lists code))

pub record Attached (w x : Watching) (c : List ℕ) (pair : Watched) : Type 0 where
  pub clauses : x.clauses ≡ w.clauses ++ c ∷ []
  pub same_count : length x.lists ≡ length w.lists
  pub watches : pair_of x (length w.clauses) ≡ pair
  pub pairs : (k : ℕ) → k < length w.clauses → pair_of x k ≡ pair_of w k
  pub listed : (code k : ℕ) → IsListed w code k → IsListed x code k
