-- What it is to keep a requirement, and which rules are asked on a slice.
--     has_part b day part x    the part is in the parts list of the set: an active variant with it, of an active position, is used
--     keeps b day c x          the set keeps the claim
--     broken_rule b day c      what a set meets just where it doesn't keep the claim
--     is_asked r s             the requirement has a day in the slice
--     rules_on b s rs          the rules that are asked on a slice, in the sequence of the requirements
use Rattle.std.specs.Prelude.{ℕ, Bool, false, not, ◌&&◌, ◌||◌, List, [], ◌∷◌, filter, map, nat_le, slice_get, if◌then◌else◌}
use Rattle.std.specs.List.{flat_map, list_any}
use Rattle.std.specs.Option.{option_map_or}
use Rattle.pb_base.specs.Names.{same_name}
use Rattle.pb_base.specs.Rule.{Rule, negation, holds}
use Rattle.book_model.specs.Activity.{is_within}
use Rattle.book_model.specs.Contents.{Contents}
use Rattle.book_model.specs.Parts.{is_active_position}
use Rattle.book_model.specs.declared.record.Slice.{Slice}
use Rattle.book_model.specs.declared.record.Variant.{Variant}
use Rattle.clausify.specs.Questions.{and_none}
use Rattle.requirements.specs.declared.requirement.Claim.{Claim}
use Rattle.requirements.specs.declared.requirement.Claim.TheVariants.{Meets, Uses}
use Rattle.requirements.specs.declared.requirement.Requirement.{Requirement}

abbrev pub is_active_at : Contents → ℕ → ℕ → Bool
is_active_at b day place = option_map_or (is_active_position day) (slice_get b.positions place) false

-- the variant has the part, and it and its position are active
abbrev pub carries : Contents → ℕ → List ℕ → Variant → Bool
carries b day part v = same_name v.part part && is_within v.from v.until day && is_active_at b day v.position

abbrev pub has_part : Contents → ℕ → List ℕ → List Bool → Bool
has_part b day part x = list_any (λ v. carries b day part v && holds v.rule x) b.variants

-- each car meets the rule; each car that meets the rule has the part
abbrev pub keeps : Contents → ℕ → Claim → List Bool → Bool
keeps b day (Meets rule) x = holds rule x
keeps b day (Uses part rule) x = not (holds rule x) || has_part b day part x

-- the rules by which variants are used that have the part
abbrev pub part_rules : Contents → ℕ → List ℕ → List Rule
part_rules b day part = map (λ v. v.rule) (filter (carries b day part) b.variants)

abbrev pub broken_rule : Contents → ℕ → Claim → Rule
broken_rule b day (Meets rule) = negation rule
broken_rule b day (Uses part rule) = and_none rule (part_rules b day part)

-- of a claim about a part it is asked, too, whether a car meets its rule
abbrev pub meant_rules : Claim → List Rule
meant_rules (Meets rule) = []
meant_rules (Uses part rule) = rule ∷ []

abbrev pub asked_rules : Contents → ℕ → Claim → List Rule
asked_rules b day c = broken_rule b day c ∷ meant_rules c

-- the days of the requirement in the slice
abbrev pub first_on : Requirement → Slice → ℕ
first_on r s = if nat_le r.from s.first then s.first else r.from

abbrev pub last_on : Requirement → Slice → ℕ
last_on r s = if nat_le s.last r.until then s.last else r.until

abbrev pub is_asked : Requirement → Slice → Bool
is_asked r s = nat_le (first_on r s) (last_on r s)

abbrev pub rules_of : Contents → Slice → Requirement → List Rule
rules_of b s r = if is_asked r s then asked_rules b s.first r.claim else []

abbrev pub rules_on : Contents → Slice → List Requirement → List Rule
rules_on b s rs = flat_map (rules_of b s) rs

-- how many rules are asked for a claim, and for a requirement on a slice
abbrev pub claim_count : Claim → ℕ
claim_count (Meets rule) = 1
claim_count (Uses part rule) = 2

abbrev pub count_on : Requirement → Slice → ℕ
count_on r s = if is_asked r s then claim_count r.claim else 0
