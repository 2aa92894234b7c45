-- The variables of a slice are few enough to be numbered, and the questions of a choice are few.
use Rattle.std.proofs.Common.{ℕ, zero, suc, ◌+◌, ◌*◌, ◌≤◌, ◌<◌, Bool, true, false, List, [], ◌∷◌, length, map, sym, ap, subst, arith, length-append, inl, inr}
use Rattle.std.specs.List.{filter, AllByRecursion, slice_get}
use Rattle.std.proofs.lemmas.Bool.{cases_Bool, cond-true, cond-false}
use Rattle.std.proofs.lemmas.List.{length-map}
use Rattle.std.proofs.lemmas.List.Elements.{recursion_from_All}
use Rattle.pb_base.specs.Rule.{Rule, code, negation, both, either, always, never, nodes}
use Rattle.book_model.specs.Contents.{Contents}
use Rattle.book_model.specs.Activity.{is_within}
use Rattle.book_model.specs.Parts.{variants_of, is_active_position}
use Rattle.book_model.specs.Book.{IsBook, RuleFits, SupplementFits, ConstructFits, DemandFits, VariantFits}
use Rattle.book_model.specs.declared.demand.Demand.{Demand}
use Rattle.book_model.specs.declared.demand.Demand.TheVariants as demand
use Rattle.book_model.specs.declared.record.Supplement.{Supplement}
use Rattle.book_model.specs.declared.record.Construct.{Construct}
use Rattle.book_model.specs.declared.record.Position.{Position}
use Rattle.book_model.specs.declared.record.Variant.{Variant}
use Rattle.std.specs.Option.{option_map_or}
use Rattle.clausify.specs.Formulas.{connectives}
use Rattle.clausify.specs.Items.{Item, variables_of, supplement_item, demand_item, construct_item, usage_item, rule_items, usage_items}
use Rattle.clausify.specs.Choices.{Choice, choices, choices_from, usage, active_variants, is_active_variant}
use Rattle.clausify.specs.Pairs.{pairs}
use Rattle.clausify.specs.Goals.{usages_from, choice_variables, numbered_from, goals_variables}
use Rattle.clausify.specs.Coded.{usages_start, goals_start, slice_variables}
use Rattle.clausify.specs.declared.usage.Usage.{Usage}
use Rattle.book_model.proofs.BookLimits.{constructs_below}
use Rattle.clausify.proofs.ItemLaws.{variables_of-append}
use Rattle.clausify.proofs.ListLaws.{all_weaker}
use Rattle.clausify.proofs.Remaining.{length-usages_from}

pub connectives_below : (f : Rule) → connectives f ≤ nodes f
connectives_below (code place) = omega arith
connectives_below (negation f) = omega (arith, connectives_below f)
connectives_below (both f g) = omega (arith, connectives_below f, connectives_below g)
connectives_below (either f g) = omega (arith, connectives_below f, connectives_below g)
connectives_below always = omega arith
connectives_below never = omega arith

module _ {X : Type 0} where
  length-filter_below : (w : X → Bool) (xs : List X) → length (filter w xs) ≤ length xs
  length-filter_below w [] = omega arith
  length-filter_below w (x ∷ xs) =
      elim (cases_Bool (w x)) [
        | inl e ↦ omega (arith, ap length (cond-true (w x) (x ∷ filter w xs) (filter w xs) e), length-filter_below w xs)
        | inr e ↦ omega (arith, ap length (cond-false (w x) (x ∷ filter w xs) (filter w xs) e), length-filter_below w xs)
      ]

  pub variables_below : (w : X → Bool) (f : X → Item) (xs : List X) → AllByRecursion (λ x. connectives (f x).rule ≤ 512) xs → variables_of (map f (filter w xs)) ≤ 512 * length xs
  variables_below w f [] h = omega arith
  variables_below w f (x ∷ xs) h =
      elim (cases_Bool (w x)) [
        | inl e ↦ omega (arith, ap (λ (ys : List X). variables_of (map f ys)) (cond-true (w x) (x ∷ filter w xs) (filter w xs) e), variables_below w f xs h.1, h.0)
        | inr e ↦ omega (arith, ap (λ (ys : List X). variables_of (map f ys)) (cond-false (w x) (x ∷ filter w xs) (filter w xs) e), variables_below w f xs h.1)
      ]

fitting_below : (n : ℕ) (f : Rule) → RuleFits n f → connectives f ≤ 512
fitting_below n f h = omega (arith, connectives_below f, h.size)

pub demand_item_below : (n : ℕ) (d : Demand) → DemandFits n d → connectives (demand_item d).rule ≤ 512
demand_item_below n (demand.Rule on rule) h = fitting_below n rule h.rule
demand_item_below n (demand.One group) h = omega arith
demand_item_below n (demand.Most group) h = omega arith

rule_items_below : (b : Contents) (day : ℕ) → IsBook b → variables_of (rule_items b day) ≤ 512 * 16000
rule_items_below b day book =
    let n : ℕ = length b.codes in
    let supplements = variables_below (λ (s : Supplement). is_within s.from s.until day) supplement_item b.supplements
    (all_weaker (SupplementFits n) (λ s. connectives s.rule ≤ 512) (λ s h. fitting_below n s.rule h.rule) b.supplements (recursion_from_All (SupplementFits n) b.supplements book.supplements_fit)) in
    let constructs = variables_below (λ (c : Construct). is_within c.from c.until day) construct_item b.constructs
    (all_weaker (ConstructFits n) (λ c. connectives (construct_item c).rule ≤ 512) (λ c h. demand_item_below n c.demand h.demand) b.constructs (recursion_from_All (ConstructFits n) b.constructs book.constructs_fit)) in
    omega (
      arith,
      variables_of-append (map supplement_item (filter (λ s. is_within s.from s.until day) b.supplements)) (map construct_item (filter (λ c. is_within c.from c.until day) b.constructs)),
      supplements,
      constructs,
      book.supplements_limit,
      constructs_below b book,
    )

usage_below_at : (n m : ℕ) (vs : List Variant) (k : ℕ) → AllByRecursion (VariantFits n m) vs → connectives (option_map_or (λ v. v.rule) (slice_get vs k) never) ≤ 512
usage_below_at n m [] k h = omega arith
usage_below_at n m (v ∷ vs) zero h = fitting_below n v.rule h.0.rule
usage_below_at n m (v ∷ vs) (suc k) h = usage_below_at n m vs k h.1

usage_below : (b : Contents) → IsBook b → (variant : ℕ) → connectives (usage b variant) ≤ 512
usage_below b book variant =
    usage_below_at (length b.codes) (length b.positions) b.variants variant (recursion_from_All (VariantFits (length b.codes) (length b.positions)) b.variants book.variants_fit)

usages_below : (b : Contents) → IsBook b → (variants : List ℕ) → variables_of (map (usage_item b) variants) ≤ 512 * length variants
usages_below b book [] = omega arith
usages_below b book (variant ∷ variants) = omega (arith, usage_below b book variant, usages_below b book variants)

-- a choice has at most 200 variants
pub active_below : (b : Contents) (day : ℕ) → IsBook b → (place : ℕ) → length (active_variants b day place) ≤ 200
active_below b day book place = omega (arith, length-filter_below (is_active_variant b day) (variants_of place b.variants), book.choices_limit place)

abbrev AllSmall : List Choice → Type 0
AllSmall cs = AllByRecursion (λ c. length c.variants ≤ 200) cs

choices_from_small : (i : ℕ) (b : Contents) (day : ℕ) → IsBook b → (ps : List Position) → AllSmall (choices_from i b day ps)
choices_from_small i b day book [] = tt
choices_from_small i b day book (p ∷ ps) =
    elim (cases_Bool (is_active_position day p)) [
      | inl e ↦ subst AllSmall (sym (cond-true (is_active_position day p) _ (choices_from (suc i) b day ps) e)) (active_below b day book i, choices_from_small (suc i) b day book ps)
      | inr e ↦ subst AllSmall (sym (cond-false (is_active_position day p) _ (choices_from (suc i) b day ps) e)) (choices_from_small (suc i) b day book ps)
    ]

length-choices_from : (i : ℕ) (b : Contents) (day : ℕ) (ps : List Position) → length (choices_from i b day ps) ≤ length ps
length-choices_from i b day [] = omega arith
length-choices_from i b day (p ∷ ps) =
    elim (cases_Bool (is_active_position day p)) [
      | inl e ↦ omega (arith, ap length (cond-true (is_active_position day p) (record { position = i; mandatory = p.mandatory; variants = active_variants b day i } ∷ choices_from (suc i) b day ps) (choices_from (suc i) b day ps) e), length-choices_from (suc i) b day ps)
      | inr e ↦ omega (arith, ap length (cond-false (is_active_position day p) (record { position = i; mandatory = p.mandatory; variants = active_variants b day i } ∷ choices_from (suc i) b day ps) (choices_from (suc i) b day ps) e), length-choices_from (suc i) b day ps)
    ]

usage_items_below : (b : Contents) → IsBook b → (cs : List Choice) → AllSmall cs → variables_of (usage_items b cs) ≤ 102400 * length cs
usage_items_below b book [] h = omega arith
usage_items_below b book (c ∷ cs) h =
    omega (arith, variables_of-append (map (usage_item b) c.variants) (usage_items b cs), usages_below b book c.variants, h.0, usage_items_below b book cs h.1)

length-pairs_below : {X : Type 0} (xs : List X) → length xs ≤ 200 → length (pairs xs) ≤ 200 * length xs
length-pairs_below [] h = omega arith
length-pairs_below {X} (x ∷ xs) h =
    let with_first : X → X × X = λ y. (x, y) in
    omega (arith, length-append (map with_first xs) (pairs xs), length-map xs with_first, length-pairs_below xs (omega arith))

choice_below : (mandatory : Bool) (us : List Usage) → length us ≤ 200 → choice_variables mandatory us ≤ 40200
choice_below true us h = omega (arith, length-pairs_below us h)
choice_below false us h = omega (arith, length-pairs_below us h)

choices_below : (b : Contents) (n v w : ℕ) (cs : List Choice) → AllSmall cs → goals_variables (numbered_from b n v w cs) ≤ 40200 * length cs
choices_below b n v w [] h = omega arith
choices_below b n v w (c ∷ cs) h =
    omega (
      arith,
      choice_below c.mandatory (usages_from b n v c.variants) (omega (arith, length-usages_from b n v c.variants, h.0)),
      choices_below b n (v + variables_of (map (usage_item b) c.variants)) (w + choice_variables c.mandatory (usages_from b n v c.variants)) cs h.1,
    )

-- the variables of a slice are numbers of 32 bits
pub variables_fit : (b : Contents) (day : ℕ) → IsBook b → slice_variables b day < 4294967296
variables_fit b day book =
    omega (
      arith,
      variables_of-append (rule_items b day) (usage_items b (choices b day)),
      rule_items_below b day book,
      usage_items_below b book (choices b day) (choices_from_small 0 b day book b.positions),
      length-choices_from 0 b day b.positions,
      choices_below b (length b.codes) (usages_start b day) (goals_start b day) (choices b day) (choices_from_small 0 b day book b.positions),
      book.positions_limit,
      book.codes_limit,
    )
