-- Lists of days as sets.
--     has_day days day           the day is among them
--     AddsDays old new n test    new has the days of old and those that pass, in at most n more places
--     changes_within term periods day    the day is of the term, and one on which a period begins or has ended the day before
use Rattle.std.specs.Prelude.{◌≡◌, ℕ, ◌+◌, ◌≤◌, Bool, ◌||◌, ◌&&◌, ◌==◌, List, length}
use Rattle.std.specs.List.{list_any}
use Rattle.book_model.specs.Activity.{is_within}
use Rattle.book_model.specs.Slices.{turns_at, changes_at}
use Rattle.book_model.specs.declared.record.Slice.{Slice}

abbrev pub has_day : List ℕ → ℕ → Bool
has_day days day = list_any (λ d. day == d) days

pub record AddsDays (old new : List ℕ) (most : ℕ) (test : ℕ → Bool) : Type 0 where
  pub days : (day : ℕ) → has_day new day ≡ (has_day old day || test day)
  pub count : length new ≤ length old + most

-- this day, if it is of the term
abbrev pub is_day_of : Slice → ℕ → ℕ → Bool
is_day_of term this day = is_within term.first term.last day && (day == this)

abbrev pub turns_within : Slice → Slice → ℕ → Bool
turns_within term period day = is_within term.first term.last day && turns_at day period

abbrev pub changes_within : Slice → List Slice → ℕ → Bool
changes_within term periods day = is_within term.first term.last day && changes_at term.first periods day
