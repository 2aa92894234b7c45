-- Formulas that are true just where a rule isn't kept, if it is active.
--     any_of codes      one of the codes is present
--     two_of codes      two of them are
--     firing s          the supplementing rule fires
--     unmet demand      the demand of a constructibility rule isn't met
use Rattle.std.specs.Prelude.{ℕ, List, [], ◌∷◌, None, Some}
use Rattle.pb_base.specs.Rule.{Rule, code, negation, both, either, never}
use Rattle.book_model.specs.declared.demand.Demand.{Demand}
use Rattle.book_model.specs.declared.demand.Demand.TheVariants as demand
use Rattle.book_model.specs.declared.record.Supplement.{Supplement}

-- the formula so far, or one of the codes
abbrev pub any_from : Rule → List ℕ → Rule
any_from so_far [] = so_far
any_from so_far (c ∷ cs) = any_from (either so_far (code c)) cs

abbrev pub any_of : List ℕ → Rule
any_of codes = any_from never codes

-- the formula so far, or a code and one that stands after it
abbrev pub two_from : Rule → List ℕ → Rule
two_from so_far [] = so_far
two_from so_far (c ∷ cs) = two_from (either so_far (both (code c) (any_of cs))) cs

abbrev pub two_of : List ℕ → Rule
two_of codes = two_from never codes

abbrev pub firing : Supplement → Rule
firing s = both s.rule (negation (code s.code))

abbrev pub unmet : Demand → Rule
unmet (demand.Rule None rule) = negation rule
unmet (demand.Rule (Some place) rule) = both (code place) (negation rule)
unmet (demand.One group) = either (negation (any_of group)) (two_of group)
unmet (demand.Most group) = two_of group
