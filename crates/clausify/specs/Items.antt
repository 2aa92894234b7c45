-- The formulas of a slice, in the order in which they are given their literals, and the clauses that follow each. A group
-- has no formula of its own, and stands with the one that is always true.
--     items b day                the formulas of the records that are active on the day
--     claim_where g d l          the clauses of a claim, behind a guard or none
--     item_clauses n v is        their clauses, where v is the first variable that they take
--     encoded_items n v is       the same behind the clause that variable n is true
--     variables_of is            how many variables they take
use Rattle.std.specs.Prelude.{ℕ, ◌+◌, true, false, List, [], ◌∷◌, ◌++◌, Option, None, Some, filter, length, map}
use Rattle.std.specs.List.{flat_map}
use Rattle.pb_base.specs.Rule.{Rule, always}
use Rattle.book_model.specs.Activity.{is_within}
use Rattle.book_model.specs.Contents.{Contents}
use Rattle.book_model.specs.declared.demand.Demand.{Demand}
use Rattle.book_model.specs.declared.demand.Demand.TheVariants as demand
use Rattle.book_model.specs.declared.record.Supplement.{Supplement}
use Rattle.book_model.specs.declared.record.Construct.{Construct}
use Rattle.clause_pool.specs.Literal.{literal, complement}
use Rattle.clause_pool.specs.Clause.{clause_of}
use Rattle.clausify.specs.Formulas.{connectives, formula_literal, formula_clauses}
use Rattle.clausify.specs.Pairs.{pairs}
use Rattle.clausify.specs.Choices.{Choice, choices, usage}

-- what is claimed of a formula, or of the codes of a group
pub data Claim : Type 0 where
  adds : ℕ → Claim  -- where it is true, the code is present
  needed_by : ℕ → Claim  -- where the code is present, it is true
  needed : Claim  -- it is true
  one_of : List ℕ → Claim  -- exactly one of the codes is present
  most_of : List ℕ → Claim  -- at most one of them is
  free : Claim  -- nothing

pub record Item : Type 0 where
  pub rule : Rule
  pub claim : Claim

-- some code is present, and two are not present together
abbrev pub any_literals : List ℕ → List ℕ
any_literals group = map (λ code. literal code true) group

abbrev pub apart_literals : ℕ × ℕ → List ℕ
apart_literals p = literal p.0 false ∷ literal p.1 false ∷ []

-- the literals of each clause of a claim, as they are given, where l is the literal of the formula
abbrev pub claim_literals : Claim → ℕ → List (List ℕ)
claim_literals (adds code) l = (complement l ∷ literal code true ∷ []) ∷ []
claim_literals (needed_by code) l = (literal code false ∷ l ∷ []) ∷ []
claim_literals needed l = (l ∷ []) ∷ []
claim_literals (one_of group) l = any_literals group ∷ map apart_literals (pairs group)
claim_literals (most_of group) l = map apart_literals (pairs group)
claim_literals free l = []

-- a clause that holds where the guard is true, or always where there is none
abbrev pub clause_where : Option ℕ → List ℕ → List ℕ
clause_where None lits = clause_of lits
clause_where (Some g) lits = clause_of (literal g false ∷ lits)

abbrev pub claim_where : Option ℕ → Claim → ℕ → List (List ℕ)
claim_where g d l = map (clause_where g) (claim_literals d l)

abbrev pub claim_clauses : Claim → ℕ → List (List ℕ)
claim_clauses d l = claim_where None d l

-- how many codes a group has
abbrev pub group_size : Demand → ℕ
group_size (demand.Rule on rule) = 0
group_size (demand.One group) = length group
group_size (demand.Most group) = length group

abbrev pub variables_of : List Item → ℕ
variables_of [] = 0
variables_of (i ∷ is) = connectives i.rule + variables_of is

-- the clauses of a formula and of what is claimed
abbrev pub own_clauses : ℕ → ℕ → Item → List (List ℕ)
own_clauses n v i = formula_clauses n v i.rule ++ claim_clauses i.claim (formula_literal n v i.rule)

abbrev pub item_clauses : ℕ → ℕ → List Item → List (List ℕ)
item_clauses n v [] = []
item_clauses n v (i ∷ is) = own_clauses n v i ++ item_clauses n (v + connectives i.rule) is

abbrev pub encoded_items : ℕ → ℕ → List Item → List (List ℕ)
encoded_items n v is = clause_of (literal n true ∷ []) ∷ item_clauses n v is

-- a formula of which nothing is claimed
abbrev pub free_item : Rule → Item
free_item f = record { rule = f; claim = free }

-- where the formula is true, the code is present
abbrev pub added_item : ℕ → Rule → Item
added_item code f = record { rule = f; claim = adds code }

abbrev pub claim_on : Option ℕ → Claim
claim_on None = needed
claim_on (Some code) = needed_by code

abbrev pub supplement_item : Supplement → Item
supplement_item s = added_item s.code s.rule

abbrev pub rule_item : Option ℕ → Rule → Item
rule_item on rule = record { rule = rule; claim = claim_on on }

abbrev pub demand_item : Demand → Item
demand_item (demand.Rule on rule) = rule_item on rule
demand_item (demand.One group) = record { rule = always; claim = one_of group }
demand_item (demand.Most group) = record { rule = always; claim = most_of group }

abbrev pub construct_item : Construct → Item
construct_item c = demand_item c.demand

abbrev pub usage_item : Contents → ℕ → Item
usage_item b variant = free_item (usage b variant)

-- the supplementing rules that are active on the day, and the constructibility rules
abbrev pub supplement_items : Contents → ℕ → List Item
supplement_items b day = map supplement_item (filter (λ s. is_within s.from s.until day) b.supplements)

abbrev pub construct_items : Contents → ℕ → List Item
construct_items b day = map construct_item (filter (λ c. is_within c.from c.until day) b.constructs)

abbrev pub rule_items : Contents → ℕ → List Item
rule_items b day = supplement_items b day ++ construct_items b day

-- the usages of the variants of the active positions
abbrev pub usage_items : Contents → List Choice → List Item
usage_items b cs = flat_map (λ c. map (usage_item b) c.variants) cs

abbrev pub items : Contents → ℕ → List Item
items b day = rule_items b day ++ usage_items b (choices b day)
