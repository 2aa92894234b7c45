-- The clauses of two books over one numbering of their codes: no code is present that only one has, then the rules and usages of
-- the first book, then those of the second with the variables of its codes.
--     renamed_item numbers i          the item with other variables for its codes
--     day_variants b day              the active variants of the active positions
--     joint_items first second day    all formulas with what is claimed of them
--     joint_clauses ..                their clauses
--     first_usages .., second_usages ..    the literals of the usages
--     IsJoint first second day j      clauses, variables and usages of two books, and the variables of the second book's codes
use Rattle.std.specs.Prelude.{◌≡◌, ℕ, ◌+◌, List, [], ◌∷◌, ◌++◌, None, length, map, slice_index_or}
use Rattle.std.specs.List.{flat_map}
use Rattle.pb_base.specs.Rule.{Rule, code, negation}
use Rattle.pb_base.specs.Leaves.{with_places}
use Rattle.book_model.specs.Contents.{Contents}
use Rattle.clausify.specs.Formulas.{connectives, formula_literal}
use Rattle.clausify.specs.Items.{Claim, adds, needed_by, needed, one_of, most_of, free, Item, rule_item, free_item, rule_items, items, variables_of, encoded_items}
use Rattle.clausify.specs.Choices.{choices, usage}
use Rattle.clausify.specs.Goals.{all_usages}
use Rattle.clausify.specs.declared.usage.Usage.{Usage}
use Rattle.book_compare.specs.Numbering.{numbers_of, joint_codes, alone}
use Rattle.book_compare.specs.declared.joint.Joint.{Joint}

-- the code of this variable is absent
abbrev pub absent_item : ℕ → Item
absent_item variable = rule_item None (negation (code variable))

abbrev pub absent_items : Contents → Contents → List Item
absent_items first second = map absent_item (alone first.codes second.codes)

abbrev pub number_at : List ℕ → ℕ → ℕ
number_at numbers place = slice_index_or numbers place 0

abbrev pub renamed_claim : List ℕ → Claim → Claim
renamed_claim numbers (adds place) = adds (number_at numbers place)
renamed_claim numbers (needed_by place) = needed_by (number_at numbers place)
renamed_claim numbers needed = needed
renamed_claim numbers (one_of group) = one_of (map (number_at numbers) group)
renamed_claim numbers (most_of group) = most_of (map (number_at numbers) group)
renamed_claim numbers free = free

abbrev pub renamed_item : List ℕ → Item → Item
renamed_item numbers i = record { rule = with_places numbers i.rule; claim = renamed_claim numbers i.claim }

abbrev pub day_variants : Contents → ℕ → List ℕ
day_variants b day = flat_map (λ c. c.variants) (choices b day)

abbrev pub renamed_usage : List ℕ → Contents → ℕ → Rule
renamed_usage numbers b variant = with_places numbers (usage b variant)

abbrev pub renamed_usage_items : List ℕ → Contents → List ℕ → List Item
renamed_usage_items numbers b variants = map (λ v. free_item (renamed_usage numbers b v)) variants

-- the second book's items, behind those of the first
abbrev pub second_items : Contents → Contents → ℕ → List Item
second_items first second day =
    let numbers = numbers_of first.codes second.codes in
    map (renamed_item numbers) (rule_items second day) ++ renamed_usage_items numbers second (day_variants second day)

abbrev pub joint_items : Contents → Contents → ℕ → List Item
joint_items first second day = absent_items first second ++ (items first day ++ second_items first second day)

abbrev pub first_variable : Contents → Contents → ℕ
first_variable first second = joint_codes first.codes second.codes

abbrev pub joint_clauses : Contents → Contents → ℕ → List (List ℕ)
joint_clauses first second day = encoded_items (length first.codes) (first_variable first second) (joint_items first second day)

abbrev pub joint_variables : Contents → Contents → ℕ → ℕ
joint_variables first second day = first_variable first second + variables_of (joint_items first second day)

-- the first variables of the first book's rules and of its usages, and the same of the second
abbrev pub first_rules_at : Contents → Contents → ℕ
first_rules_at first second = first_variable first second + variables_of (absent_items first second)

abbrev pub first_usages_at : Contents → Contents → ℕ → ℕ
first_usages_at first second day = first_rules_at first second + variables_of (rule_items first day)

abbrev pub second_rules_at : Contents → Contents → ℕ → ℕ
second_rules_at first second day = first_rules_at first second + variables_of (items first day)

abbrev pub second_usages_at : Contents → Contents → ℕ → ℕ
second_usages_at first second day =
    second_rules_at first second day + variables_of (map (renamed_item (numbers_of first.codes second.codes)) (rule_items second day))

abbrev pub first_usages : Contents → Contents → ℕ → List Usage
first_usages first second day = all_usages first (length first.codes) (first_usages_at first second day) (choices first day)

-- the literals of renamed usages, where v is the first variable that they take
abbrev pub renamed_usages : List ℕ → Contents → ℕ → ℕ → List ℕ → List Usage
renamed_usages numbers b n v [] = []
renamed_usages numbers b n v (k ∷ ks) =
    record { variant = k; literal = formula_literal n v (renamed_usage numbers b k) }
    ∷ renamed_usages numbers b n (v + connectives (renamed_usage numbers b k)) ks

abbrev pub second_usages : Contents → Contents → ℕ → List Usage
second_usages first second day =
    renamed_usages (numbers_of first.codes second.codes) second (length first.codes) (second_usages_at first second day) (day_variants second day)

pub record IsJoint (first second : Contents) (day : ℕ) (j : Joint) : Type 0 where
  pub clauses : j.pool.clauses ≡ joint_clauses first second day
  pub variables : j.vars ≡ joint_variables first second day
  pub first_usages : j.first.items ≡ first_usages first second day
  pub second_usages : j.second.items ≡ second_usages first second day
  pub numbers : j.numbers.items ≡ numbers_of first.codes second.codes
