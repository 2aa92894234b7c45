-- Which sets of codes a book allows on a day.
--     fires day x s           the supplementing rule adds its code to the set
--     is_closed b day x       no supplementing rule fires
--     is_met x demand         the set meets the demand of a constructibility rule
--     breaks day x c          the constructibility rule is broken by the set
--     is_constructible b day x       none is broken
--     is_good b day x         closed and constructible, over the codes of the book
use Rattle.std.specs.Prelude.{ℕ, Bool, not, ◌&&◌, ◌||◌, ◌==◌, List, None, Some, length, filter, nat_le}
use Rattle.std.specs.List.{list_any}
use Rattle.pb_base.specs.Rule.{holds}
use Rattle.pb_base.specs.Sets.{has}
use Rattle.book_model.specs.Activity.{is_within}
use Rattle.book_model.specs.Contents.{Contents}
use Rattle.book_model.specs.declared.demand.Demand.{Demand}
use Rattle.book_model.specs.declared.demand.Demand.TheVariants.{Rule, One, Most}
use Rattle.book_model.specs.declared.record.Supplement.{Supplement}
use Rattle.book_model.specs.declared.record.Construct.{Construct}

-- it is active, its formula is true and its code is absent
abbrev pub fires : ℕ → List Bool → Supplement → Bool
fires day x s = is_within s.from s.until day && holds s.rule x && not (has x s.code)

abbrev pub is_closed : Contents → ℕ → List Bool → Bool
is_closed b day x = not (list_any (fires day x) b.supplements)

-- how many of these codes are in the set
abbrev pub present : List Bool → List ℕ → ℕ
present x codes = length (filter (has x) codes)

-- a rule of no code is met where its formula is true, a rule of a code also where the code is absent; a group is met where
-- exactly one of its codes is present, or at most one
abbrev pub is_met : List Bool → Demand → Bool
is_met x (Rule None rule) = holds rule x
is_met x (Rule (Some code) rule) = not (has x code) || holds rule x
is_met x (One codes) = present x codes == 1
is_met x (Most codes) = nat_le (present x codes) 1

-- it is active and not met
abbrev pub breaks : ℕ → List Bool → Construct → Bool
breaks day x c = is_within c.from c.until day && not (is_met x c.demand)

abbrev pub is_constructible : Contents → ℕ → List Bool → Bool
is_constructible b day x = not (list_any (breaks day x) b.constructs)

abbrev pub is_good : Contents → ℕ → List Bool → Bool
is_good b day x = is_closed b day x && is_constructible b day x && (length x == length b.codes)
