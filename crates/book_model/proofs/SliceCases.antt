-- The definition of slices at small books.
use Rattle.std.proofs.Common.{◌≡◌, ℕ, List, [], ◌∷◌, None, Ok, Err, map, refl}
use Rattle.std.specs.List.{range_with_len}
use Rattle.pb_base.specs.Rule.{always}
use Rattle.book_model.specs.Contents.{Contents}
use Rattle.book_model.specs.Slices.{days_from_to, slices_of}
use Rattle.book_model.specs.declared.demand.Demand.TheVariants as demand
use Rattle.book_model.specs.declared.record.Construct.{Construct}
use Rattle.book_model.specs.declared.slicing.LimitFault.TheVariants.{Slices}

-- a rule of these days
abbrev rule_of : ℕ → ℕ → Construct
rule_of first last = record { id = []; demand = demand.Rule None always; from = first; until = last }

-- a book of the days 1 to 100 with these rules
abbrev book_with : List Construct → Contents
book_with rules = record { name = []; first = 1; last = 100; codes = []; supplements = []; constructs = rules; modules = []; positions = []; variants = [] }

-- a rule up to day 50 and one from day 52 on: nothing but the day between has neither
a_day_between : slices_of (book_with (rule_of 1 50 ∷ rule_of 52 100 ∷ [])) ≡ Ok (days_from_to 1 50 ∷ days_from_to 51 51 ∷ days_from_to 52 100 ∷ [])
unfolding slices_of
a_day_between = refl

-- one follows the other
no_day_between : slices_of (book_with (rule_of 1 50 ∷ rule_of 51 100 ∷ [])) ≡ Ok (days_from_to 1 50 ∷ days_from_to 51 100 ∷ [])
unfolding slices_of
no_day_between = refl

-- a last day before the term, a first day after it and one on its last day
at_the_ends : slices_of (book_with (rule_of 0 0 ∷ rule_of 100 100 ∷ rule_of 101 200 ∷ [])) ≡ Ok (days_from_to 1 99 ∷ days_from_to 100 100 ∷ [])
unfolding slices_of
at_the_ends = refl

-- a rule from each of the days 2 to 65 on
too_many : slices_of (book_with (map (λ k. rule_of k 100) (range_with_len 2 64))) ≡ Err (Slices 65)
unfolding slices_of
too_many = refl
