-- What a code that is added can change of the demands of constructibility rules.
--     touches code demand       the code stands in the demand
--     after code demand         a formula that is true where the set with the code meets the demand, over sets that meet it without
--     touched b day code        the active constructibility rules in whose demand the code stands
--     afters b day code         what each of them asks of the set with the code
--     touched_from i code rs    the places of the rules that the code touches, whatever their days
--     IsNoted place test old new      a rule was noted in the lists of the codes that pass
--     afters_at b day code places     what the active ones of the rules at these places ask of the set with the code
use Rattle.std.specs.Prelude.{◌≡◌, ℕ, suc, ◌-◌, ◌<◌, Bool, not, ◌&&◌, ◌||◌, ◌==◌, List, [], ◌∷◌, ◌++◌, Option, Some, None, length, filter, map, slice_index_or, if◌then◌else◌}
use Rattle.std.specs.List.{list_any}
use Rattle.pb_base.specs.Leaves.{with_present}
use Rattle.pb_base.specs.Rule.{Rule, code, negation, both, either, never}
use Rattle.book_model.specs.Activity.{is_within}
use Rattle.book_model.specs.Contents.{Contents}
use Rattle.book_model.specs.declared.demand.Demand.{Demand}
use Rattle.book_model.specs.declared.demand.Demand.TheVariants as demand
use Rattle.book_model.specs.declared.record.Construct.{Construct}
use Rattle.clausify.specs.Questions.{and_none, none_rule}
use Rattle.supplement.specs.Occurrences.{occurs}

-- in the formula, as the code that the rule is of, or among the codes of the group
abbrev pub touches : ℕ → Demand → Bool
touches added (demand.Rule None rule) = occurs added rule
touches added (demand.Rule (Some on) rule) = (on == added) || occurs added rule
touches added (demand.One group) = list_any (λ k. k == added) group
touches added (demand.Most group) = list_any (λ k. k == added) group

-- none of the other codes of a group is present
abbrev pub no_other : ℕ → List ℕ → Rule
no_other added group = none_rule (map code (filter (λ k. not (k == added)) group))

-- the formula so far, and that one more code is absent; and the same of more
abbrev pub and_absent : Option Rule → ℕ → Rule
and_absent None place = negation (code place)
and_absent (Some f) place = both f (negation (code place))

abbrev pub and_all_absent : Option Rule → List ℕ → Rule
and_all_absent None places = none_rule (map code places)
and_all_absent (Some f) places = and_none f (map code places)

-- a rule of another code still asks only where that code is present
abbrev pub after : ℕ → Demand → Rule
after added (demand.Rule None rule) = with_present added rule
after added (demand.Rule (Some on) rule) =
    if on == added then with_present added rule else either (negation (code on)) (with_present added rule)
after added (demand.One group) = no_other added group
after added (demand.Most group) = no_other added group

abbrev pub is_touched : ℕ → ℕ → Construct → Bool
is_touched day added r = is_within r.from r.until day && touches added r.demand

abbrev pub touched : Contents → ℕ → ℕ → List Construct
touched b day added = filter (is_touched day added) b.constructs

abbrev pub afters : Contents → ℕ → ℕ → List Rule
afters b day added = map (λ r. after added r.demand) (touched b day added)

-- of rules of which the first has the place i
abbrev pub touched_from : ℕ → ℕ → List Construct → List ℕ
touched_from i added [] = []
touched_from i added (r ∷ rs) = if touches added r.demand then i ∷ touched_from (suc i) added rs else touched_from (suc i) added rs

-- whether a list ends in this item, and the list with the item at its end
abbrev pub ends_in : ℕ → List ℕ → Bool
ends_in place row = not (length row == 0) && slice_index_or row (length row - 1) 0 == place

abbrev pub with_end : ℕ → List ℕ → List ℕ
with_end place row = if ends_in place row then row else row ++ place ∷ []

-- the list of each code that passes ends in the place, and those of others are as before
pub record IsNoted (place : ℕ) (test : ℕ → Bool) (old new : List (List ℕ)) : Type 0 where
  pub counted : length new ≡ length old
  pub each : (c : ℕ) → c < length old
      → slice_index_or new c [] ≡ (if test c then with_end place (slice_index_or old c []) else slice_index_or old c [])

-- a rule that is never active, in place of one that the book doesn't have
abbrev pub no_construct : Construct
no_construct = record { id = []; demand = demand.Rule None never; from = 1; until = 0 }

abbrev pub construct_at : Contents → ℕ → Construct
construct_at b place = slice_index_or b.constructs place no_construct

abbrev pub is_active_rule : ℕ → Construct → Bool
is_active_rule day r = is_within r.from r.until day

abbrev pub afters_at : Contents → ℕ → ℕ → List ℕ → List Rule
afters_at b day added places = map (λ r. after added r.demand) (filter (is_active_rule day) (map (construct_at b) places))
