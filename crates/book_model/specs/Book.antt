-- What the records of a book have to meet: their references stand for something, ids are distinct, and the limits are kept.
--     RuleFits n f             the formula speaks of n codes and keeps its limit of nodes
--     SupplementFits ..        a record whose references are in range
--     GroupFits n codes        a group's codes are some of n codes, each named once, and few enough
--     IsBook b                 all of it
use Rattle.std.specs.Prelude.{ℕ, ◌<◌, ◌≤◌, Bool, true, false, not, List, ◌++◌, Option, length, map, filter, nat_eq, IsTrue, IfSome, All}
use Rattle.std.specs.List.{IsDistinct}
use Rattle.pb_base.specs.Names.{same_name}
use Rattle.pb_base.specs.Rule.{Rule, codes_below, nodes}
use Rattle.pb_base.specs.declared.limits.TheConstants.{MOST_CODES, MOST_SUPPLEMENTS, MOST_CONSTRUCTS, MOST_GROUPS, LEAST_GROUP_CODES, MOST_GROUP_CODES, MOST_MODULES, MOST_POSITIONS, MOST_VARIANTS, MOST_CHOICES, MOST_NODES}
use Rattle.book_model.specs.Contents.{Contents}
use Rattle.book_model.specs.Parts.{variants_of}
use Rattle.book_model.specs.declared.demand.Demand.{Demand}
use Rattle.book_model.specs.declared.demand.Demand.TheVariants as demand
use Rattle.book_model.specs.declared.record.Supplement.{Supplement}
use Rattle.book_model.specs.declared.record.Construct.{Construct}
use Rattle.book_model.specs.declared.record.Position.{Position}
use Rattle.book_model.specs.declared.record.Variant.{Variant}

pub record RuleFits (codes : ℕ) (f : Rule) : Type 0 where
  pub in_range : IsTrue (codes_below codes f)
  pub size : nodes f ≤ MOST_NODES

pub record SupplementFits (codes : ℕ) (s : Supplement) : Type 0 where
  pub code : s.code < codes
  pub rule : RuleFits codes s.rule

pub record RuleOnFits (codes : ℕ) (place : Option ℕ) (f : Rule) : Type 0 where
  pub on : IfSome place (λ code. code < codes)
  pub rule : RuleFits codes f

pub record GroupFits (codes : ℕ) (group : List ℕ) : Type 0 where
  pub in_range : All (λ code. code < codes) group
  pub distinct : IsDistinct nat_eq group
  pub least : LEAST_GROUP_CODES ≤ length group
  pub most : length group ≤ MOST_GROUP_CODES

abbrev pub DemandFits : ℕ → Demand → Type 0
DemandFits codes (demand.Rule on f) = RuleOnFits codes on f
DemandFits codes (demand.One group) = GroupFits codes group
DemandFits codes (demand.Most group) = GroupFits codes group

pub record ConstructFits (codes : ℕ) (c : Construct) : Type 0 where
  pub demand : DemandFits codes c.demand

pub record PositionFits (modules : ℕ) (p : Position) : Type 0 where
  pub module_ : IfSome p.«module» (λ place. place < modules)

pub record VariantFits (codes positions : ℕ) (v : Variant) : Type 0 where
  pub position : v.position < positions
  pub rule : RuleFits codes v.rule

-- a constructibility rule is a group, or a rule of a code or of no code
abbrev pub demands_group : Demand → Bool
demands_group (demand.Rule on f) = false
demands_group (demand.One group) = true
demands_group (demand.Most group) = true

abbrev pub groups_in : List Construct → List Construct
groups_in constructs = filter (λ c. demands_group c.demand) constructs

abbrev pub rules_in : List Construct → List Construct
rules_in constructs = filter (λ c. not (demands_group c.demand)) constructs

-- supplementing and constructibility rules share their ids
abbrev pub rule_ids : Contents → List (List ℕ)
rule_ids b = map (λ s. s.id) b.supplements ++ map (λ c. c.id) b.constructs

pub record IsBook (b : Contents) : Type 0 where
  pub term : b.first ≤ b.last
  pub codes_limit : length b.codes ≤ MOST_CODES
  pub supplements_limit : length b.supplements ≤ MOST_SUPPLEMENTS
  pub constructs_limit : length (rules_in b.constructs) ≤ MOST_CONSTRUCTS
  pub groups_limit : length (groups_in b.constructs) ≤ MOST_GROUPS
  pub modules_limit : length b.modules ≤ MOST_MODULES
  pub positions_limit : length b.positions ≤ MOST_POSITIONS
  pub variants_limit : length b.variants ≤ MOST_VARIANTS
  pub choices_limit : (place : ℕ) → length (variants_of place b.variants) ≤ MOST_CHOICES
  pub supplements_fit : All (SupplementFits (length b.codes)) b.supplements
  pub constructs_fit : All (ConstructFits (length b.codes)) b.constructs
  pub positions_fit : All (PositionFits (length b.modules)) b.positions
  pub variants_fit : All (VariantFits (length b.codes) (length b.positions)) b.variants
  pub rule_ids_distinct : IsDistinct same_name (rule_ids b)
  pub module_ids_distinct : IsDistinct same_name (map (λ m. m.id) b.modules)
  pub position_ids_distinct : IsDistinct same_name (map (λ p. p.id) b.positions)
  pub variant_ids_distinct : IsDistinct same_name (map (λ v. v.id) b.variants)
