-- How the supplementing rules of a book complete a set of codes on a day.
--     first_firing rules day x    the rule that fires first: the lowest rank, and at one rank the earliest record
--     Includes x y                y has each code that x has
--     completion_of b day x       the completed set, and what was added, in order of adding
use Rattle.std.specs.Prelude.{ℕ, zero, suc, Bool, true, not, List, [], ◌∷◌, Option, None, Some, nat_le, count_by, slice_set, IsTrue, if◌then◌else◌}
use Rattle.std.specs.Option.{option_map_or}
use Rattle.pb_base.specs.Sets.{has}
use Rattle.book_model.specs.Contents.{Contents}
use Rattle.book_model.specs.Good.{fires}
use Rattle.book_model.specs.declared.record.Supplement.{Supplement}
use Rattle.supplement.specs.declared.completed.Completed.{Completed}
use Rattle.supplement.specs.declared.firing.Firing.{Firing}

-- the rule s at this place, if it fires
abbrev pub firing_at : ℕ → ℕ → List Bool → Supplement → Option Firing
firing_at place day x s = if fires day x s then Some (record { rank = s.rank; rule = place; code = s.code }) else None

-- of an earlier and a later record the one that fires first: the lower rank, and at one rank the earlier record
abbrev pub first_of : Option Firing → Option Firing → Option Firing
first_of None later = later
first_of (Some f) None = Some f
first_of (Some f) (Some g) = if nat_le f.rank g.rank then Some f else Some g

-- the rule that fires first, of rules of which the first has this place
abbrev pub first_firing_from : ℕ → ℕ → List Bool → List Supplement → Option Firing
first_firing_from place day x [] = None
first_firing_from place day x (s ∷ ss) = first_of (firing_at place day x s) (first_firing_from (suc place) day x ss)

abbrev pub first_firing : List Supplement → ℕ → List Bool → Option Firing
first_firing rules day x = first_firing_from 0 day x rules

-- the set with the code of the rule
abbrev pub with_code_of : Firing → List Bool → List Bool
with_code_of f x = slice_set x f.code true

abbrev pub Includes : List Bool → List Bool → Type 0
Includes x y = (code : ℕ) → IsTrue (has x code) → IsTrue (has y code)

abbrev pub nothing_added : List Bool → Completed
nothing_added x = record { set = x; added = [] }

-- the rule adds its code, and the rest follows
abbrev pub added_first : Firing → Completed → Completed
added_first f rest = record { set = rest.set; added = record { code = f.code; rule = f.rule } ∷ rest.added }

-- the completion of a set that lacks at most n codes: where no rule fires, nothing is added; else the code of the rule that fires first, and then what completes the larger set
abbrev pub completion_within : ℕ → List Supplement → ℕ → List Bool → Completed
completion_within zero rules day x = nothing_added x
completion_within (suc n) rules day x = option_map_or (λ f. added_first f (completion_within n rules day (with_code_of f x))) (first_firing rules day x) (nothing_added x)

-- the completion of a set by these supplementing rules
unfoldable pub completion_by : List Supplement → ℕ → List Bool → Completed
completion_by rules day x = completion_within (count_by not x) rules day x

abbrev pub completion_of : Contents → ℕ → List Bool → Completed
completion_of b day x = completion_by b.supplements day x
