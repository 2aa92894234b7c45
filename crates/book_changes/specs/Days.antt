-- The days on which two books are compared: the longest runs of days of both terms on which neither book changes.
--     shared s t              the days that are in both slices, if there are any
--     joint_runs ss ts        of the slices of one book and those of another
--     IsJointRun first second r    on all days of a run the same records of each book are active
use Rattle.std.specs.Prelude.{◌≡◌, All, Ok, ℕ, List, [], ◌∷◌, ◌≤◌, nat_le, if◌then◌else◌}
use Rattle.std.specs.List.{flat_map}
use Rattle.book_model.specs.Contents.{Contents}
use Rattle.book_model.specs.Slices.{days_from_to, slices_of, IsSteady}
use Rattle.book_model.specs.declared.record.Slice.{Slice}

abbrev pub later : ℕ → ℕ → ℕ
later a b = if nat_le a b then b else a

abbrev pub earlier : ℕ → ℕ → ℕ
earlier a b = if nat_le a b then a else b

abbrev pub shared_days : Slice → Slice → Slice
shared_days s t = days_from_to (later s.first t.first) (earlier s.last t.last)

abbrev pub shared : Slice → Slice → List Slice
shared s t = if nat_le (later s.first t.first) (earlier s.last t.last) then shared_days s t ∷ [] else []

abbrev pub joint_runs : List Slice → List Slice → List Slice
joint_runs ss ts = flat_map (λ s. flat_map (shared s) ts) ss

-- a run of days of the book's term, on all of which the same records are active
pub record IsSliceOf (b : Contents) (s : Slice) : Type 0 where
  pub steady : IsSteady b s
  pub from : b.first ≤ s.first
  pub to : s.last ≤ b.last

pub record IsSliced (b : Contents) (slices : List Slice) : Type 0 where
  pub are : slices_of b ≡ Ok slices
  pub each : All (IsSliceOf b) slices

-- on all days of the run the same records of the book are active, and it begins in the book's term
pub record IsRunOf (b : Contents) (r : Slice) : Type 0 where
  pub steady : IsSteady b r
  pub from : b.first ≤ r.first
  pub to : r.first ≤ b.last

pub record IsJointRun (first second : Contents) (r : Slice) : Type 0 where
  pub one : IsRunOf first r
  pub other : IsRunOf second r
