-- The slices of a book's term: the longest runs of its days on which the same records are active.
--     periods_of b          the days of each record that has days
--     is_change b day       the first day of the term, or one on which a record begins to be active or ceases to be
--     days_of b             the days of the term, in order
--     slices_of b           the slices in order of days; more than the limit are refused with their number
--     AreAlike b day other  on both days the same records are active
--     IsSteady b slice      all days of the slice are like its first
use Rattle.std.specs.Prelude.{ℕ, suc, ◌+◌, ◌-◌, ◌≤◌, Bool, ◌||◌, ◌==◌, List, [], ◌∷◌, ◌++◌, Result, Ok, Err, filter, map, length, nat_le, IsTrue, All, ◌≡◌, if◌then◌else◌}
use Rattle.std.specs.List.{list_any, range_with_len}
use Rattle.pb_base.specs.declared.limits.TheConstants.{MOST_SLICES}
use Rattle.book_model.specs.Activity.{is_within}
use Rattle.book_model.specs.Contents.{Contents}
use Rattle.book_model.specs.declared.record.Slice.{Slice}
use Rattle.book_model.specs.declared.slicing.LimitFault.{LimitFault}
use Rattle.book_model.specs.declared.slicing.LimitFault.TheVariants.{Slices}

abbrev pub days_from_to : ℕ → ℕ → Slice
days_from_to from until = record { first = from; last = until }

abbrev pub periods_of : Contents → List Slice
periods_of b =
    map (λ s. days_from_to s.from s.until) b.supplements
    ++ map (λ c. days_from_to c.from c.until) b.constructs
    ++ map (λ p. days_from_to p.from p.until) b.positions
    ++ map (λ v. days_from_to v.from v.until) b.variants

-- the first day of the period, or the day after its last
abbrev pub turns_at : ℕ → Slice → Bool
turns_at day period = (day == period.first) || (day == period.last + 1)

-- a term that begins on this day changes there
abbrev pub changes_at : ℕ → List Slice → ℕ → Bool
changes_at first periods day = (day == first) || list_any (turns_at day) periods

abbrev pub is_change : Contents → ℕ → Bool
is_change b = changes_at b.first (periods_of b)

abbrev pub days_of : Contents → List ℕ
days_of b = range_with_len b.first (suc (b.last - b.first))

abbrev pub change_days : Contents → List ℕ
change_days b = filter (is_change b) (days_of b)

-- the day before the next change, or the last day
abbrev pub end_before : List ℕ → ℕ → ℕ
end_before [] last = last
end_before (next ∷ days) last = next - 1

-- from each of these days on to the next of them, and from the last of them to the last day
abbrev pub runs_from : List ℕ → ℕ → List Slice
runs_from [] last = []
runs_from (day ∷ days) last = days_from_to day (end_before days last) ∷ runs_from days last

abbrev pub all_slices : Contents → List Slice
all_slices b = runs_from (change_days b) b.last

abbrev pub within_limit : List Slice → Result (List Slice) LimitFault
within_limit slices = if nat_le (length slices) MOST_SLICES then Ok slices else Err (Slices (length slices))

unfoldable pub slices_of : Contents → Result (List Slice) LimitFault
slices_of b = within_limit (all_slices b)

-- the days of a slice
abbrev pub days_in : Slice → List ℕ
days_in slice = range_with_len slice.first (suc (slice.last - slice.first))

abbrev pub IsOrdered : Slice → Type 0
IsOrdered slice = slice.first ≤ slice.last

-- on both days the same records are active
abbrev pub AreAlike : Contents → ℕ → ℕ → Type 0
AreAlike b day other = All (λ period. is_within period.first period.last day ≡ is_within period.first period.last other) (periods_of b)

-- on all days of the slice the same records are active
abbrev pub IsSteady : Contents → Slice → Type 0
IsSteady b slice = (day : ℕ) → IsTrue (is_within slice.first slice.last day) → AreAlike b day slice.first
