-- The variables of two books are numbers of 32 bits, and the clauses of a position speak of no others.
use Rattle.std.proofs.Common.{◌≡◌, ℕ, zero, suc, ◌+◌, ◌*◌, ◌<◌, ◌≤◌, Bool, true, false, List, [], ◌∷◌, ◌++◌, Option, Some, None, length, get_or, map, refl, sym, ap, subst, inl, inr, arith, length-append}
use Rattle.std.specs.List.{filter, flat_map, list_any, slice_get, sum_by, AllByRecursion}
use Rattle.std.specs.Option.{option_map_or, is_none}
use Rattle.std.proofs.lemmas.Bool.{cond_both}
use Rattle.std.proofs.lemmas.List.{length-map, map-append}
use Rattle.std.proofs.lemmas.List.Elements.{recursion_from_All}
use Rattle.std.proofs.lemmas.List.Sums.{sum_by-cons}
use Rattle.std.proofs.lemmas.Option.{slice_get_within}
use Rattle.pb_base.specs.Rule.{Rule, code, negation, both, either, always, never, nodes, codes_below}
use Rattle.pb_base.specs.Names.{place_in}
use Rattle.pb_base.proofs.LeafLaws.{codes_below-with_places}
use Rattle.pb_base.specs.Leaves.{with_places}
use Rattle.book_model.specs.Activity.{is_within}
use Rattle.book_model.specs.Book.{IsBook, SupplementFits, ConstructFits, DemandFits, VariantFits}
use Rattle.book_model.specs.Contents.{Contents}
use Rattle.book_model.specs.Parts.{is_active_position}
use Rattle.book_model.specs.declared.demand.Demand.{Demand}
use Rattle.book_model.specs.declared.demand.Demand.TheVariants as demand
use Rattle.book_model.specs.declared.record.Supplement.{Supplement}
use Rattle.book_model.specs.declared.record.Construct.{Construct}
use Rattle.book_model.specs.declared.record.Position.{Position}
use Rattle.book_model.specs.declared.record.Variant.{Variant}
use Rattle.book_model.proofs.BookLimits.{constructs_below}
use Rattle.clause_pool.specs.Literal.{literal, complement}
use Rattle.clause_pool.specs.Clause.{AreBelow, IsBelow, clause_of}
use Rattle.clause_pool.proofs.ClauseLaws.{IsBelow-clause_of}
use Rattle.clausify.specs.Formulas.{connectives, either_clauses}
use Rattle.clausify.specs.Items.{Item, free_item, variables_of, supplement_item, demand_item, construct_item, rule_items, usage_item, usage_items, items}
use Rattle.clausify.specs.Choices.{Choice, choices, choices_from, usage, active_variants}
use Rattle.clausify.specs.Goals.{usages_from, all_usages}
use Rattle.clausify.specs.declared.usage.Usage.{Usage}
use Rattle.clausify.proofs.Bounds.{connectives_below, demand_item_below, variables_below, active_below}
use Rattle.clausify.proofs.GoalLaws.{UsagesFit, usages_fit}
use Rattle.clausify.proofs.ItemLaws.{variables_of-append}
use Rattle.clausify.proofs.ListLaws.{all-append, all-map, all_weaker, all_filtered}
use Rattle.clausify.proofs.RangeLaws.{positive_below, negative_below, complement_below, literal_below, either_below, items_below}
use Rattle.book_compare.specs.Numbering.{numbers_of, further, alone}
use Rattle.chosen_parts.specs.Chosen.{position_place, part_use, is_same_use}
use Rattle.chosen_parts.specs.declared.part_use.PartUse.{PartUse}
use Rattle.book_compare.specs.Asked.{is_variant_of, usages_in, usages_at, uses, new_keys, keys_of, literals_with, key_literals, asked_keys}
use Rattle.book_compare.specs.Keys.{KeyLiterals, any_clauses, any_literal, either_all, either_literal, joins, key_variables, first_literal, second_literal, lost_variable, won_variable, key_clauses, keys_clauses, keys_variables, ways, goal_clause, position_clauses}
use Rattle.book_compare.specs.Together.{position_variables, together_clauses, together_variables, together_goals, place_keys, searched_clauses, searched_variables, goal_at}
use Rattle.book_compare.specs.declared.place.Place.{Place}
use Rattle.book_compare.specs.declared.place.TheConstants.{MOST_OF_POSITION}
use Rattle.book_compare.specs.Same.{active_of, variants_on, variants_at}
use Rattle.book_compare.proofs.JointLaws.{joint_fit}
use Rattle.book_compare.proofs.NumberLaws.{cases_option, numbers_below}
use Rattle.book_compare.proofs.UsageLaws.{first_and_rest, variants_by_id, first_variants, renamed_variants}
use Rattle.book_compare.specs.JointItems.{absent_item, absent_items, renamed_item, day_variants, renamed_usage, renamed_usage_items, renamed_usages, second_items, joint_items, first_variable, joint_clauses, joint_variables, first_usages_at, second_usages_at, first_usages, second_usages}

-- few variables: a formula has at most 512 nodes

length-filter_below : {X : Type 0} (w : X → Bool) (xs : List X) → length (filter w xs) ≤ length xs
length-filter_below w [] = omega arith
length-filter_below w (x ∷ xs) = grind (arith, length-filter_below w xs)

few_rules : (b : Contents) (day : ℕ) → IsBook b → variables_of (rule_items b day) ≤ 512 * 16000
few_rules b day book =
    let n : ℕ = length b.codes in
    let supplements = variables_below (λ (s : Supplement). is_within s.from s.until day) supplement_item b.supplements
    (all_weaker (SupplementFits n) (λ s. connectives s.rule ≤ 512) (λ s h. omega (arith, connectives_below s.rule, h.rule.size)) b.supplements (recursion_from_All (SupplementFits n) b.supplements book.supplements_fit)) in
    let constructs = variables_below (λ (c : Construct). is_within c.from c.until day) construct_item b.constructs
    (all_weaker (ConstructFits n) (λ c. connectives (construct_item c).rule ≤ 512) (λ c h. demand_item_below n c.demand h.demand) b.constructs (recursion_from_All (ConstructFits n) b.constructs book.constructs_fit)) in
    omega (
      arith,
      variables_of-append (map supplement_item (filter (λ s. is_within s.from s.until day) b.supplements)) (map construct_item (filter (λ c. is_within c.from c.until day) b.constructs)),
      supplements,
      constructs,
      book.supplements_limit,
      constructs_below b book,
    )

-- with other variables for their codes they take as many
connectives_renamed : (numbers : List ℕ) (f : Rule) → connectives (with_places numbers f) ≡ connectives f
connectives_renamed numbers (code place) = elim (cases_option (slice_get numbers place)) [ inl none ↦ rw none refl | inr some ↦ rw some.1 refl ]
connectives_renamed numbers (negation f) = connectives_renamed numbers f
connectives_renamed numbers (both f g) = omega (arith, connectives_renamed numbers f, connectives_renamed numbers g)
connectives_renamed numbers (either f g) = omega (arith, connectives_renamed numbers f, connectives_renamed numbers g)
connectives_renamed numbers always = refl
connectives_renamed numbers never = refl

variables_renamed : (numbers : List ℕ) (is : List Item) → variables_of (map (renamed_item numbers) is) ≡ variables_of is
variables_renamed numbers [] = refl
variables_renamed numbers (i ∷ is) = omega (arith, connectives_renamed numbers i.rule, variables_renamed numbers is)

nodes_at : (n m : ℕ) (vs : List Variant) (k : ℕ) → AllByRecursion (VariantFits n m) vs → nodes (option_map_or (λ v. v.rule) (slice_get vs k) never) ≤ 512
nodes_at n m [] k h = omega arith
nodes_at n m (v ∷ vs) zero h = h.0.rule.size
nodes_at n m (v ∷ vs) (suc k) h = nodes_at n m vs k h.1

usage_few : (b : Contents) → IsBook b → (variant : ℕ) → connectives (usage b variant) ≤ 512
usage_few b book variant =
    omega (arith, connectives_below (usage b variant), nodes_at (length b.codes) (length b.positions) b.variants variant (recursion_from_All (VariantFits (length b.codes) (length b.positions)) b.variants book.variants_fit))

few_made : (rule : ℕ → Rule) → ((k : ℕ) → connectives (rule k) ≤ 512) → (ks : List ℕ) → variables_of (map (λ k. free_item (rule k)) ks) ≤ 512 * length ks
few_made rule few [] = omega arith
few_made rule few (k ∷ ks) = omega (arith, few k, few_made rule few ks)

usage_items_are : (b : Contents) (cs : List Choice) → usage_items b cs ≡ map (usage_item b) (flat_map (λ c. c.variants) cs)
usage_items_are b [] = refl
usage_items_are b (c ∷ cs) = rw (usage_items_are b cs, map-append) refl

-- a position has at most 200 variants
few_active : (b : Contents) (day : ℕ) → IsBook b → (place : ℕ) (p : Position) → length (active_of b day place p) ≤ 200
few_active b day book place p = cond_both (is_active_position day p) _ _ (λ (ks : List ℕ). length ks ≤ 200) (λ _. active_below b day book place) (λ _. omega arith)

few_variants : (b : Contents) (day i : ℕ) → IsBook b → (ps : List Position) → length (flat_map (λ c. c.variants) (choices_from i b day ps)) ≤ 200 * length ps
few_variants b day i book [] = omega arith
few_variants b day i book (p ∷ ps) =
    omega (
      arith,
      ap length (first_and_rest b day i p ps),
      length-append (active_of b day i p) (flat_map (λ c. c.variants) (choices_from (suc i) b day ps)),
      few_active b day book i p,
      few_variants b day (suc i) book ps,
    )

few_usages : (b : Contents) (day : ℕ) → IsBook b → (rule : ℕ → Rule) → ((k : ℕ) → connectives (rule k) ≤ 512) → variables_of (map (λ k. free_item (rule k)) (day_variants b day)) ≤ 512 * 1000000
few_usages b day book rule few = omega (arith, few_made rule few (day_variants b day), few_variants b day 0 book b.positions, book.positions_limit)

few_first : (b : Contents) (day : ℕ) → IsBook b → variables_of (items b day) ≤ 512 * 1016000
few_first b day book =
    omega (
      arith,
      variables_of-append (rule_items b day) (usage_items b (choices b day)),
      few_rules b day book,
      ap variables_of (usage_items_are b (choices b day)),
      few_usages b day book (usage b) (usage_few b book),
    )

absent_none : (vs : List ℕ) → variables_of (map absent_item vs) ≡ 0
absent_none [] = refl
absent_none (v ∷ vs) = omega (arith, absent_none vs)

few_second : (numbers : List ℕ) (b : Contents) (day : ℕ) → IsBook b
    → variables_of (map (renamed_item numbers) (rule_items b day) ++ renamed_usage_items numbers b (day_variants b day)) ≤ 512 * 1016000
few_second numbers b day book =
    omega (
      arith,
      variables_of-append (map (renamed_item numbers) (rule_items b day)) (renamed_usage_items numbers b (day_variants b day)),
      variables_renamed numbers (rule_items b day),
      few_rules b day book,
      few_usages b day book (renamed_usage numbers b) (λ k. omega (arith, connectives_renamed numbers (usage b k), usage_few b book k)),
    )

pub further_below : (first second : List (List ℕ)) → further first second ≤ length second
further_below first second = length-filter_below (λ c. is_none (place_in first c)) second

-- all variables of two books
pub joint_variables_fit : (first second : Contents) (day : ℕ) → IsBook first → IsBook second → joint_variables first second day ≤ 1073741824
joint_variables_fit first second day one other =
    omega (
      arith,
      variables_of-append (absent_items first second) (items first day ++ second_items first second day),
      variables_of-append (items first day) (second_items first second day),
      absent_none (alone first.codes second.codes),
      few_first first day one,
      few_second (numbers_of first.codes second.codes) second day other,
      further_below first.codes second.codes,
      one.codes_limit,
      other.codes_limit,
    )

-- the literals of usages

abbrev pub UsagesBelow : ℕ → List Usage → Type 0
UsagesBelow top us = AllByRecursion (λ u. u.literal < 2 * top) us

usages_from_below : (b : Contents) → UsagesFit b → (v top : ℕ) (ks : List ℕ) → length b.codes < v → v + variables_of (map (usage_item b) ks) ≤ top → UsagesBelow top (usages_from b (length b.codes) v ks)
usages_from_below b fit v top [] above room = tt
usages_from_below b fit v top (k ∷ ks) above room = (
  literal_below (length b.codes) (length b.codes) v top (usage b k) (fit.below k) (omega arith) above (omega arith),
  usages_from_below b fit (v + connectives (usage b k)) top ks (omega arith) (omega arith),
)

all_usages_below : (b : Contents) → UsagesFit b → (v top : ℕ) (cs : List Choice) → length b.codes < v → v + variables_of (usage_items b cs) ≤ top → UsagesBelow top (all_usages b (length b.codes) v cs)
all_usages_below b fit v top [] above room = tt
all_usages_below b fit v top (c ∷ cs) above room =
    let split = variables_of-append (map (usage_item b) c.variants) (usage_items b cs) in
    all-append _ (usages_from b (length b.codes) v c.variants) _ (usages_from_below b fit v top c.variants above (omega arith))
    (all_usages_below b fit (v + variables_of (map (usage_item b) c.variants)) top cs (omega arith) (omega arith))

renamed_usages_below : (numbers : List ℕ) (b : Contents) (m n v top : ℕ) → ((k : ℕ) → codes_below m (renamed_usage numbers b k) ≡ true) → m ≤ v → n < v → (ks : List ℕ)
    → v + variables_of (renamed_usage_items numbers b ks) ≤ top → UsagesBelow top (renamed_usages numbers b n v ks)
renamed_usages_below numbers b m n v top fit codes above [] room = tt
renamed_usages_below numbers b m n v top fit codes above (k ∷ ks) room = (
  literal_below m n v top (renamed_usage numbers b k) (fit k) codes above (omega arith),
  renamed_usages_below numbers b m n (v + connectives (renamed_usage numbers b k)) top fit (omega arith) (omega arith) ks (omega arith),
)

module _ (first second : Contents) (day : ℕ) (one : IsBook first) (other : IsBook second) where
  pub first_below : UsagesBelow (joint_variables first second day) (first_usages first second day)
  first_below =
      all_usages_below first (usages_fit first one.variants_fit) (first_usages_at first second day) (joint_variables first second day) (choices first day) (omega arith)
      (omega (
        arith,
        variables_of-append (absent_items first second) (items first day ++ second_items first second day),
        variables_of-append (items first day) (second_items first second day),
        variables_of-append (rule_items first day) (usage_items first (choices first day)),
      ))

  pub second_below : UsagesBelow (joint_variables first second day) (second_usages first second day)
  second_below =
      renamed_usages_below (numbers_of first.codes second.codes) second (first_variable first second) (length first.codes) (second_usages_at first second day) (joint_variables first second day)
      (λ k. codes_below-with_places (length second.codes) (first_variable first second) (numbers_of first.codes second.codes)
      (numbers_below (length first.codes + 1) first.codes second.codes (omega arith)) (usage second k) ((usages_fit second other.variants_fit).below k))
      (omega arith) (omega arith) (day_variants second day)
      (omega (
        arith,
        variables_of-append (absent_items first second) (items first day ++ second_items first second day),
        variables_of-append (items first day) (second_items first second day),
        variables_of-append (map (renamed_item (numbers_of first.codes second.codes)) (rule_items second day)) (renamed_usage_items (numbers_of first.codes second.codes) second (day_variants second day)),
      ))

  pub joint_below : (top : ℕ) → joint_variables first second day ≤ top → AreBelow (2 * top) (joint_clauses first second day)
  joint_below top room = (
    IsBelow-clause_of (2 * top) (literal (length first.codes) true ∷ []) (positive_below (length first.codes) top (omega arith), tt),
    items_below (first_variable first second) (length first.codes) (first_variable first second) top (joint_items first second day) (joint_fit first second day one other) (omega arith) (omega arith) room,
  )

-- the clauses of keys

abbrev pub LiteralsBelow : ℕ → List ℕ → Type 0
LiteralsBelow top ls = AllByRecursion (λ l. l < 2 * top) ls

any_below : (v l top : ℕ) (ls : List ℕ) → l < 2 * top → LiteralsBelow top ls → v + length ls ≤ top → AreBelow (2 * top) (any_clauses v l ls)
any_below v l top [] low below room = tt
any_below v l top (k ∷ ks) low below room =
    all-append _ (either_clauses v l k) (any_clauses (v + 1) (literal v true) ks) (either_below top v l k (omega arith) low below.0)
    (any_below (v + 1) (literal v true) top ks (positive_below v top (omega arith)) below.1 (omega arith))

any_literal_below : (v l top : ℕ) (ls : List ℕ) → l < 2 * top → v + length ls ≤ top → any_literal v l ls < 2 * top
any_literal_below v l top [] low room = low
any_literal_below v l top (k ∷ ks) low room = any_literal_below (v + 1) (literal v true) top ks (positive_below v top (omega arith)) (omega arith)

either_all_below : (v top : ℕ) (ls : List ℕ) → LiteralsBelow top ls → v + joins ls ≤ top → AreBelow (2 * top) (either_all v ls)
either_all_below v top [] below room = tt
either_all_below v top (l ∷ ls) below room = any_below v l top ls below.0 below.1 room

either_literal_below : (n v top : ℕ) (ls : List ℕ) → n < top → LiteralsBelow top ls → v + joins ls ≤ top → either_literal n v ls < 2 * top
either_literal_below n v top [] low below room = negative_below n top low
either_literal_below n v top (l ∷ ls) low below room = any_literal_below v l top ls below.0 room

abbrev pub KeysBelow : ℕ → List KeyLiterals → Type 0
KeysBelow top ks = AllByRecursion (λ k. LiteralsBelow top k.first × LiteralsBelow top k.second) ks

pair_below : (v l top : ℕ) → v < top → l < 2 * top → IsBelow (2 * top) (clause_of (literal v false ∷ l ∷ []))
pair_below v l top low below = IsBelow-clause_of (2 * top) (literal v false ∷ l ∷ []) (negative_below v top low, (below, tt))

key_below : (n v top : ℕ) (k : KeyLiterals) → n < top → LiteralsBelow top k.first → LiteralsBelow top k.second → v + key_variables k ≤ top → AreBelow (2 * top) (key_clauses n v k)
key_below n v top k low first_low second_low room =
    let l : first_literal n v k < 2 * top = either_literal_below n v top k.first low first_low (omega arith) in
    let r : second_literal n v k < 2 * top = either_literal_below n (v + joins k.first) top k.second low second_low (omega arith) in
    all-append _ (either_all v k.first) _ (either_all_below v top k.first first_low (omega arith))
    (all-append _ (either_all (v + joins k.first) k.second) _ (either_all_below (v + joins k.first) top k.second second_low (omega arith)) (
      pair_below (lost_variable v k) (first_literal n v k) top (omega arith) l,
      (
        pair_below (lost_variable v k) (complement (second_literal n v k)) top (omega arith) (complement_below (second_literal n v k) top r),
        (
          pair_below (won_variable v k) (complement (first_literal n v k)) top (omega arith) (complement_below (first_literal n v k) top l),
          (pair_below (won_variable v k) (second_literal n v k) top (omega arith) r, tt),
        ),
      ),
    ))

keys_below : (n v top : ℕ) (ks : List KeyLiterals) → n < top → KeysBelow top ks → v + keys_variables ks ≤ top → AreBelow (2 * top) (keys_clauses n v ks)
keys_below n v top [] low below room = tt
keys_below n v top (k ∷ ks) low below room =
    all-append _ (key_clauses n v k) (keys_clauses n (v + key_variables k) ks) (key_below n v top k low below.0.0 below.0.1 (omega arith))
    (keys_below n (v + key_variables k) top ks low below.1 (omega arith))

ways_below : (v top : ℕ) (ks : List KeyLiterals) → v + keys_variables ks ≤ top → LiteralsBelow top (ways v ks)
ways_below v top [] room = tt
ways_below v top (k ∷ ks) room =
    (positive_below (lost_variable v k) top (omega arith), (positive_below (won_variable v k) top (omega arith), ways_below (v + key_variables k) top ks (omega arith)))

pub position_below : (n v top : ℕ) (ks : List KeyLiterals) → n < top → KeysBelow top ks → v + keys_variables ks < top → AreBelow (2 * top) (position_clauses n v ks)
position_below n v top ks low below room =
    all-append _ (keys_clauses n v ks) (goal_clause v ks ∷ []) (keys_below n v top ks low below (omega arith))
    (IsBelow-clause_of (2 * top) (literal (v + keys_variables ks) false ∷ ways v ks) (negative_below (v + keys_variables ks) top room, ways_below v top ks (omega arith)), tt)

-- the literals of the keys of a position are those of usages
with_below : (b : Contents) (top : ℕ) (us : List Usage) (key : PartUse) → UsagesBelow top us → LiteralsBelow top (literals_with b us key)
with_below b top us key below =
    all-map (λ l. l < 2 * top) (λ (u : Usage). u.literal) (filter (λ u. is_same_use (part_use b u.variant) key) us)
    (all_filtered (λ u. u.literal < 2 * top) (λ u. is_same_use (part_use b u.variant) key) us below)

at_below : (b : Contents) (top : ℕ) (id : List ℕ) (us : List Usage) → UsagesBelow top us → UsagesBelow top (usages_at b id us)
at_below b top id us below = elim (cases_option (position_place b id)) [
  | inl none ↦ rw none tt
  | inr some ↦ rw some.1 (all_filtered (λ u. u.literal < 2 * top) (λ u. is_variant_of b some.0 u.variant) us below)
]

keys_literals_below : (first : Contents) (us : List Usage) (second : Contents) (ws : List Usage) (top : ℕ) → UsagesBelow top us → UsagesBelow top ws → (ks : List PartUse)
    → KeysBelow top (map (key_literals first us second ws) ks)
keys_literals_below first us second ws top one other [] = tt
keys_literals_below first us second ws top one other (k ∷ ks) = ((with_below first top us k one, with_below second top ws k other), keys_literals_below first us second ws top one other ks)

usages_more : (k top : ℕ) → k ≤ top → (us : List Usage) → UsagesBelow k us → UsagesBelow top us
usages_more k top more [] below = tt
usages_more k top more (u ∷ us) below = let one : u.literal < 2 * k = below.0 in (omega arith, usages_more k top more us below.1)

-- several positions
abbrev AreKeysBelow : ℕ → List (List KeyLiterals) → Type 0
AreKeysBelow top kss = AllByRecursion (KeysBelow top) kss

together_below : (n v top : ℕ) (kss : List (List KeyLiterals)) → n < top → AreKeysBelow top kss → v + together_variables kss ≤ top → AreBelow (2 * top) (together_clauses n v kss)
together_below n v top [] low below room = tt
together_below n v top (ks ∷ kss) low below room =
    all-append _ (position_clauses n v ks) (together_clauses n (v + position_variables ks) kss) (position_below n v top ks low below.0 (omega arith))
    (together_below n (v + position_variables ks) top kss low below.1 (omega arith))

goals_below : (v top : ℕ) (kss : List (List KeyLiterals)) (at : ℕ) → at < length kss → v + together_variables kss ≤ top → get_or (together_goals v kss) at 0 < 2 * top
goals_below v top [] at within room = absurd (omega arith)
goals_below v top (ks ∷ kss) zero within room = positive_below (v + keys_variables ks) top (omega arith)
goals_below v top (ks ∷ kss) (suc at) within room = goals_below (v + position_variables ks) top kss at (omega arith) (omega arith)

module _ (first second : Contents) (day : ℕ) (one : IsBook first) (other : IsBook second) where
  keys_at_below : (top : ℕ) (id : List ℕ) → joint_variables first second day ≤ top → KeysBelow top (asked_keys first second day id)
  keys_at_below top id room =
      keys_literals_below first (usages_at first id (first_usages first second day)) second (usages_at second id (second_usages first second day)) top
      (at_below first top id (first_usages first second day) (usages_more (joint_variables first second day) top room (first_usages first second day) (first_below first second day one other)))
      (at_below second top id (second_usages first second day) (usages_more (joint_variables first second day) top room (second_usages first second day) (second_below first second day one other)))
      (keys_of (uses first (usages_at first id (first_usages first second day))) (uses second (usages_at second id (second_usages first second day))))

  places_below : (top : ℕ) (ps : List Place) → joint_variables first second day ≤ top → AreKeysBelow top (place_keys first second day ps)
  places_below top [] room = tt
  places_below top (p ∷ ps) room = (keys_at_below top p.id room, places_below top ps room)

  pub searched_below : (ps : List Place) → AreBelow (2 * searched_variables first second day ps) (searched_clauses first second day ps)
  searched_below ps =
      let top : ℕ = searched_variables first second day ps in
      all-append _ (joint_clauses first second day) _ (joint_below first second day one other top (omega arith))
      (together_below (length first.codes) (joint_variables first second day) top (place_keys first second day ps) (omega arith) (places_below top ps (omega arith)) (omega arith))

-- the goals' variables are among them
pub goal_below : (first second : Contents) (day : ℕ) (ps : List Place) (at : ℕ) → at < length ps → goal_at first second day ps at < 2 * searched_variables first second day ps
goal_below first second day ps at within =
    goals_below (joint_variables first second day) (searched_variables first second day ps) (place_keys first second day ps) at
    (omega (arith, length-map ps (λ (q : Place). asked_keys first second day q.id))) (omega arith)

-- few variables of a position

few_at : (b : Contents) (day : ℕ) → IsBook b → (id : List ℕ) → length (variants_at b day id) ≤ 200
few_at b day book id = elim (cases_option (position_place b id)) [
  | inl none ↦ rw none (omega arith)
  | inr some ↦ elim (cases_option (slice_get b.positions some.0)) [
    | inl gone ↦ rw (some.1, gone) (omega arith)
    | inr there ↦ rw (some.1, there.1) (few_active b day book some.0 there.0)
  ]
]

few_by_id : (b : Contents) (day : ℕ) → IsBook b → (id : List ℕ) (us : List Usage) → map (λ (u : Usage). u.variant) us ≡ day_variants b day → length (usages_at b id us) ≤ 200
few_by_id b day book id us variants =
    omega (arith, ap length (variants_by_id b day id us variants), length-map (usages_at b id us) (λ (u : Usage). u.variant), few_at b day book id)

few_new : (seen ks : List PartUse) → length (new_keys seen ks) ≤ length ks
few_new seen [] = omega arith
few_new seen (k ∷ ks) =
    cond_both (list_any (λ p. is_same_use k p) seen) _ _ (λ (ps : List PartUse). length ps ≤ suc (length ks)) (λ _. omega (arith, few_new seen ks)) (λ _. omega (arith, few_new (seen ++ k ∷ []) ks))

few_joins : (ls : List ℕ) → joins ls ≤ length ls
few_joins [] = omega arith
few_joins (l ∷ ls) = omega arith

few_with : (b : Contents) (us : List Usage) (key : PartUse) → joins (literals_with b us key) ≤ length us
few_with b us key =
    omega (
      arith,
      few_joins (literals_with b us key),
      length-map (filter (λ u. is_same_use (part_use b u.variant) key) us) (λ (u : Usage). u.literal),
      length-filter_below (λ (u : Usage). is_same_use (part_use b u.variant) key) us,
    )

few_keys : (first : Contents) (us : List Usage) (second : Contents) (ws : List Usage) → length us ≤ 200 → length ws ≤ 200 → (ks : List PartUse)
    → keys_variables (map (key_literals first us second ws) ks) ≤ 402 * length ks
few_keys first us second ws one other [] = omega arith
few_keys first us second ws one other (k ∷ ks) = omega (arith, few_with first us k, few_with second ws k, few_keys first us second ws one other ks)

few_keys_of : (first : Contents) (us : List Usage) (second : Contents) (ws : List Usage) → length (keys_of (uses first us) (uses second ws)) ≤ length us + length ws
few_keys_of first us second ws =
    omega (
      arith,
      length-append (new_keys [] (uses first us)) (new_keys (new_keys [] (uses first us)) (uses second ws)),
      few_new [] (uses first us),
      few_new (new_keys [] (uses first us)) (uses second ws),
      length-map us (λ (u : Usage). part_use first u.variant),
      length-map ws (λ (u : Usage). part_use second u.variant),
    )

module _ (first second : Contents) (day : ℕ) (one : IsBook first) (other : IsBook second) where
  position_few : (id : List ℕ) → position_variables (asked_keys first second day id) ≤ MOST_OF_POSITION
  position_few id =
      let us : List Usage = usages_at first id (first_usages first second day) in
      let ws : List Usage = usages_at second id (second_usages first second day) in
      let own : length us ≤ 200 = few_by_id first day one id (first_usages first second day) (first_variants first day (length first.codes) _) in
      let theirs : length ws ≤ 200 = few_by_id second day other id (second_usages first second day) (renamed_variants _ second (length first.codes) _ _) in
      omega (arith, few_keys first us second ws own theirs (keys_of (uses first us) (uses second ws)), few_keys_of first us second ws, own, theirs)

  pub together_few : (ps : List Place) → together_variables (place_keys first second day ps) ≤ sum_by (λ (p : Place). MOST_OF_POSITION) ps
  together_few [] = omega arith
  together_few (p ∷ ps) = omega (arith, position_few p.id, together_few ps, sum_by-cons (λ (q : Place). MOST_OF_POSITION) p ps)
