-- What the answer of a search says of a position: a set is a car that gets other parts, and a refutation shows that there is none.
use Rattle.std.proofs.Common.{◌≡◌, ℕ, ◌+◌, ◌<◌, ◌≤◌, Bool, true, false, not, ◌||◌, ◌==◌, List, [], ◌∷◌, ◌++◌, Option, Some, None, length, map, refl, sym, ap, subst, ◌∙◌, inl, inr, arith, append-nil}
use Rattle.std.specs.List.{list_any, filter, slice_get, AllByRecursion, IsDistinct}
use Rattle.std.specs.Option.{option_map_or}
use Rattle.std.proofs.lemmas.Bool.{cases_Bool, true≢false}
use Rattle.std.proofs.lemmas.List.{length-map, get_or_append_left}
use Rattle.pb_base.specs.Names.{same_name}
use Rattle.pb_base.specs.NamedSet.{named}
use Rattle.pb_base.specs.Rule.{Rule}
use Rattle.pb_base.specs.Sets.{has}
use Rattle.book_model.specs.Contents.{Contents}
use Rattle.book_model.specs.Good.{is_good}
use Rattle.clause_pool.specs.Literal.{complement, is_true}
use Rattle.clause_pool.specs.Clause.{Sat, Follows}
use Rattle.clause_pool.specs.Derivation.{AllFollow}
use Rattle.clause_pool.proofs.ClauseLaws.{TrueLiteral, true_literal, all_found}
use Rattle.clause_pool.proofs.LiteralLaws.{is_true-complement}
use Rattle.clausify.specs.declared.usage.Usage.{Usage}
use Rattle.clausify.proofs.FormulaLaws.{Names, names_last}
use Rattle.clausify.proofs.GoalLaws.{AllRight}
use Rattle.clausify.proofs.ItemLaws.{items_named, length-items_named}
use Rattle.clausify.proofs.LiftLaws.{lifted, IsLiftedOver, truth_from_sat}
use Rattle.clausify.proofs.ListLaws.{all-append, all_first, all_last, all-map, all_filtered}
use Rattle.solver.specs.Answer.{IsSpent}
use Rattle.chosen_parts.specs.Chosen.{position_place, part_use, is_same_use, chosen_at, chosen, AreFew}
use Rattle.chosen_parts.specs.declared.part_use.PartUse.{PartUse}
use Rattle.chosen_parts.proofs.FewLaws.{few_chosen, few_from_sound}
use Rattle.book_compare.specs.Asked.{is_variant_of, usages_in, usages_at, uses, keys_of, literals_with, key_literals, asked_keys, asked_clauses, asked_variables, asked_goal}
use Rattle.book_compare.specs.Comparison.{IsLeft}
use Rattle.book_compare.specs.Common.{IsCommon, DiffersWith, AreAlike}
use Rattle.pb_base.specs.Picked.{AreNamed, picked}
use Rattle.book_compare.specs.JointItems.{joint_items, first_variable, joint_clauses, joint_variables, first_usages, second_usages}
use Rattle.book_compare.specs.Keys.{KeyLiterals, position_clauses}
use Rattle.book_compare.specs.Numbering.{missing_from, added_from}
use Rattle.book_compare.specs.Comparing.{IsOfTerm, AreBooks}
use Rattle.book_compare.specs.Together.{place_keys, searched_clauses, searched_variables, goal_at}
use Rattle.book_compare.specs.declared.place.Place.{Place}
use Rattle.book_compare.proofs.ChoiceLaws.{same_when_none, none_when_same}
use Rattle.book_compare.proofs.JointLaws.{lift_common, alone_false, first_good, first_right, second_good, second_right}
use Rattle.book_compare.proofs.KeyLaws.{Values, constant, values_from_names, chooses_first, chooses_second, lost, won, truths, values_of, key_values, differs, keys_values, position_values}
use Rattle.book_compare.proofs.NumberLaws.{cases_option, missing_below}
use Rattle.book_compare.proofs.PickLaws.{picked_in_other}
use Rattle.pb_base.proofs.PickLaws.{picked_distinct, named-picked, picked_named}
use Rattle.book_compare.proofs.TogetherLaws.{together_values, sat_from_together, goal_by_values, differs_together, keys_there}
use Rattle.book_compare.proofs.UsageLaws.{has_use, first_variants, renamed_variants, chosen_by_key}

-- at most one part stands at each position
few_at : (b : Contents) (day : ℕ) (id : List ℕ) (x : List Bool) → AreFew b day x → length (chosen b day id x) ≤ 1
few_at b day id x few = elim (cases_option (position_place b id)) [ inl none ↦ rw none (omega arith) | inr some ↦ rw some.1 (few_chosen b day x some.0 few) ]

few_chosen_in : (b : Contents) (day : ℕ) (id : List ℕ) (x : List Bool) → IsOfTerm b day → is_good b day x ≡ true → length (chosen b day id x) ≤ 1
few_chosen_in b day id x term good = few_at b day id x (few_from_sound b day x (term.releasable.sound day term.first term.last x good))

module _ (first second : Contents) (day : ℕ) (id : List ℕ) (books : AreBooks first second day) where
  abbrev n : ℕ
  n = length first.codes

  abbrev us : List Usage
  us = first_usages first second day

  abbrev ws : List Usage
  ws = second_usages first second day

  abbrev keys : List KeyLiterals
  keys = asked_keys first second day id

  -- over an assignment that satisfies the clauses of the books and begins with a set of names
  module _ (a : ℕ → Bool) (names : List (List ℕ)) (are : AreNamed first.codes names) (begins : (i : ℕ) → i < n → a i ≡ has (named first.codes names) i) (sat : Sat (joint_clauses first second day) a) where
    abbrev x : List Bool
    x = named first.codes names

    abbrev y : List Bool
    y = named second.codes names

    right_first : AllRight first x a us
    right_first = first_right first second day books.one.book books.other.book names a are begins sat

    right_second : AllRight second y a ws
    right_second = second_right first second day books.one.book books.other.book names a are begins sat

    by_first : (key : PartUse) → list_any (is_true a) (literals_with first (usages_at first id us) key) ≡ has_use key (chosen first day id x)
    by_first key = chosen_by_key first day x a id us key right_first (first_variants first day n _)

    by_second : (key : PartUse) → list_any (is_true a) (literals_with second (usages_at second id ws) key) ≡ has_use key (chosen second day id y)
    by_second key = chosen_by_key second day y a id ws key right_second (renamed_variants _ second n _ _)

    few_first : length (chosen first day id x) ≤ 1
    few_first = few_chosen_in first day id x books.one (first_good first second day books.one.book books.other.book names a are begins sat)

    few_second : length (chosen second day id y) ≤ 1
    few_second = few_chosen_in second day id y books.other (second_good first second day books.one.book books.other.book names a are begins sat)

    pub alike_there : list_any (differs a) keys ≡ false → chosen first day id x ≡ chosen second day id y
    alike_there none =
        same_when_none a first (usages_at first id us) second (usages_at second id ws) (chosen first day id x) (chosen second day id y) by_first by_second few_first few_second none

    pub none_there : chosen first day id x ≡ chosen second day id y → list_any (differs a) keys ≡ false
    none_there same =
        none_when_same a first (usages_at first id us) second (usages_at second id ws) (chosen first day id x) (chosen second day id y) by_first by_second same

-- a set that the solver finds

absent_in : (n : ℕ) (a : ℕ → Bool) (set : List Bool) → ((i : ℕ) → i < n → a i ≡ has set i) → (vs : List ℕ) → AllByRecursion (λ v. v < n) vs → AllByRecursion (λ v. a v ≡ false) vs
    → AllByRecursion (λ v. has set v ≡ false) vs
absent_in n a set same [] below gone = tt
absent_in n a set same (v ∷ vs) below gone = (sym (same v below.0) ∙ gone.0, absent_in n a set same vs below.1 gone.1)

pub differs_with : (first second : Contents) (day : ℕ) (ps : List Place) (at : ℕ) (p : Place) (set : List Bool) (a : ℕ → Bool) → AreBooks first second day → IsDistinct same_name first.codes
    → slice_get ps at ≡ Some p → ((i : ℕ) → i < length first.codes → a i ≡ has set i) → Sat (searched_clauses first second day ps) a → is_true a (goal_at first second day ps at) ≡ true
    → DiffersWith first second day p.id (picked first.codes set)
differs_with first second day ps at p set a books apart there starts satisfied assumed = record {
  common = record {
    distinct = picked_distinct 0 set first.codes apart;
    in_first = are;
    in_second =
        picked_in_other second.codes 0 set first.codes
        (absent_in (length first.codes) a set starts (missing_from 0 second.codes first.codes) (missing_below (length first.codes) 0 second.codes first.codes (omega arith))
        (all_first _ (missing_from 0 second.codes first.codes) (added_from (length first.codes + 1) first.codes second.codes)
        (alone_false first second day books.one.book books.other.book names a are begins joint)));
    good_in_first = first_good first second day books.one.book books.other.book names a are begins joint;
    good_in_second = second_good first second day books.one.book books.other.book names a are begins joint;
  };
  differ = λ same. true≢false (sym some ∙ none_there first second day p.id books a names are begins joint same);
}
  where
    names : List (List ℕ)
    names = picked first.codes set

    are : AreNamed first.codes names
    are = picked_named 0 set first.codes

    begins : (i : ℕ) → i < length first.codes → a i ≡ has (named first.codes names) i
    begins i within = starts i within ∙ named-picked first.codes set apart i within

    joint : Sat (joint_clauses first second day) a
    joint = all_first _ (joint_clauses first second day) _ satisfied

    truth : a (length first.codes) ≡ true
    truth = truth_from_sat (length first.codes) a joint.0

    some : list_any (differs a) (asked_keys first second day p.id) ≡ true
    some =
        differs_together a (length first.codes) (joint_variables first second day) (place_keys first second day ps) at (asked_keys first second day p.id) truth
        (all_last _ (joint_clauses first second day) _ satisfied) (keys_there first second day ps at p there) assumed

-- assignments that agree on the literals of the usages

abbrev SameOn : (ℕ → Bool) → (ℕ → Bool) → List ℕ → Type 0
SameOn a c ls = AllByRecursion (λ l. is_true a l ≡ is_true c l) ls

same_truths : (a c : ℕ → Bool) (ls : List ℕ) → SameOn a c ls → map (is_true a) ls ≡ map (is_true c) ls
same_truths a c [] same = refl
same_truths a c (l ∷ ls) same = ap (λ t. t ∷ map (is_true a) ls) same.0 ∙ ap (λ (ts : List Bool). is_true c l ∷ ts) (same_truths a c ls same.1)

same_any : (a c : ℕ → Bool) (ls : List ℕ) → SameOn a c ls → list_any (is_true a) ls ≡ list_any (is_true c) ls
same_any a c [] same = refl
same_any a c (l ∷ ls) same = ap (λ t. t || list_any (is_true a) ls) same.0 ∙ ap (λ t. is_true c l || t) (same_any a c ls same.1)

abbrev SameOnKeys : (ℕ → Bool) → (ℕ → Bool) → List KeyLiterals → Type 0
SameOnKeys a c ks = AllByRecursion (λ k. SameOn a c k.first × SameOn a c k.second) ks

-- the same truths have the same values
same_key_values : (a c : ℕ → Bool) (k : KeyLiterals) → SameOn a c k.first → SameOn a c k.second → key_values a k ≡ key_values c k
same_key_values a c k one other = rw (same_truths a c k.first one, same_truths a c k.second other, same_any a c k.first one, same_any a c k.second other) refl

same_keys_values : (a c : ℕ → Bool) (ks : List KeyLiterals) → SameOnKeys a c ks → keys_values a ks ≡ keys_values c ks
same_keys_values a c [] same = refl
same_keys_values a c (k ∷ ks) same = rw (same_key_values a c k same.0.0 same.0.1, same_keys_values a c ks same.1) refl

same_differs : (a c : ℕ → Bool) (k : KeyLiterals) → SameOn a c k.first → SameOn a c k.second → differs a k ≡ differs c k
same_differs a c k one other = rw (same_any a c k.first one, same_any a c k.second other) refl

same_any_differs : (a c : ℕ → Bool) (ks : List KeyLiterals) → SameOnKeys a c ks → list_any (differs a) ks ≡ list_any (differs c) ks
same_any_differs a c [] same = refl
same_any_differs a c (k ∷ ks) same = rw (same_differs a c k same.0.0 same.0.1, same_any_differs a c ks same.1) refl

same_position_values : (a c : ℕ → Bool) (ks : List KeyLiterals) → SameOnKeys a c ks → position_values a ks ≡ position_values c ks
same_position_values a c ks same = rw (same_keys_values a c ks same, same_any_differs a c ks same) refl

abbrev SameOnUsages : (ℕ → Bool) → (ℕ → Bool) → List Usage → Type 0
SameOnUsages a c us = AllByRecursion (λ u. is_true a u.literal ≡ is_true c u.literal) us

both_right : (b : Contents) (x : List Bool) (a c : ℕ → Bool) (us : List Usage) → AllRight b x a us → AllRight b x c us → SameOnUsages a c us
both_right b x a c [] one other = tt
both_right b x a c (u ∷ us) one other = (one.0 ∙ sym other.0, both_right b x a c us one.1 other.1)

same_at : (b : Contents) (id : List ℕ) (a c : ℕ → Bool) (us : List Usage) → SameOnUsages a c us → SameOnUsages a c (usages_at b id us)
same_at b id a c us same = elim (cases_option (position_place b id)) [
  | inl none ↦ rw none tt
  | inr some ↦ rw some.1 (all_filtered (λ u. is_true a u.literal ≡ is_true c u.literal) (λ u. is_variant_of b some.0 u.variant) us same)
]

same_with : (b : Contents) (a c : ℕ → Bool) (us : List Usage) (key : PartUse) → SameOnUsages a c us → SameOn a c (literals_with b us key)
same_with b a c us key same =
    all-map (λ l. is_true a l ≡ is_true c l) (λ (u : Usage). u.literal) (filter (λ u. is_same_use (part_use b u.variant) key) us)
    (all_filtered (λ u. is_true a u.literal ≡ is_true c u.literal) (λ u. is_same_use (part_use b u.variant) key) us same)

same_on_keys : (first : Contents) (us : List Usage) (second : Contents) (ws : List Usage) (a c : ℕ → Bool) → SameOnUsages a c us → SameOnUsages a c ws → (ks : List PartUse)
    → SameOnKeys a c (map (key_literals first us second ws) ks)
same_on_keys first own second theirs a c one other [] = tt
same_on_keys first own second theirs a c one other (k ∷ ks) = ((same_with first a c own k one, same_with second a c theirs k other), same_on_keys first own second theirs a c one other ks)

-- where the search is refuted, each car that both allow gets the same

module _ (first second : Contents) (day : ℕ) (books : AreBooks first second day) (names : List (List ℕ)) (common : IsCommon first second day names) where
  abbrev m : ℕ
  m = first_variable first second

  abbrev z : List Bool
  z = named first.codes names ++ true ∷ []

  abbrev named_rules : List Rule
  named_rules = items_named (joint_items first second day)

  lift : (own : List Rule) → IsLiftedOver m (length first.codes) m (joint_items first second day) own z (lifted (length first.codes) m z (named_rules ++ own))
  lift own = lift_common first second day books.one.book books.other.book names common own

  starts : (own : List Rule) (i : ℕ) → i < length first.codes → lifted (length first.codes) m z (named_rules ++ own) i ≡ has (named first.codes names) i
  starts own i within = (lift own).begins.codes i (omega arith) ∙ get_or_append_left (named first.codes names) (true ∷ []) false i (omega (arith, within, length-map first.codes (λ c. list_any (same_name c) names)))

  alike_if : (id : List ℕ) → list_any (differs (lifted (length first.codes) m z (named_rules ++ []))) (asked_keys first second day id) ≡ false
      → chosen first day id (named first.codes names) ≡ chosen second day id (named second.codes names)
  alike_if id none = alike_there first second day id books (lifted (length first.codes) m z (named_rules ++ [])) names common.in_first (starts []) (lift []).satisfies none

  -- the same for a car where no assignment that begins with it and satisfies the clauses of the books differs by a key
  pub alike_over : (id : List ℕ)
      → ((a : ℕ → Bool) → ((i : ℕ) → i < length first.codes → a i ≡ has (named first.codes names) i) → Sat (joint_clauses first second day) a → list_any (differs a) (asked_keys first second day id) ≡ false)
      → chosen first day id (named first.codes names) ≡ chosen second day id (named second.codes names)
  alike_over id none = alike_if id (none (lifted (length first.codes) m z (named_rules ++ [])) (starts []) (lift []).satisfies)

  -- the same with the values of the variables of positions
  module _ (ps : List Place) where
    abbrev a : ℕ → Bool
    a = lifted (length first.codes) m z (named_rules ++ [])

    abbrev own : List Rule
    own = map constant (together_values a (place_keys first second day ps))

    abbrev c : ℕ → Bool
    c = lifted (length first.codes) m z (named_rules ++ map constant (together_values a (place_keys first second day ps)))

    same_keys : (id : List ℕ) → SameOnKeys c a (asked_keys first second day id)
    same_keys id =
        same_on_keys first (usages_at first id (first_usages first second day)) second (usages_at second id (second_usages first second day)) c a
        (same_at first id c a (first_usages first second day)
        (both_right first (named first.codes names) c a (first_usages first second day)
        (first_right first second day books.one.book books.other.book names c common.in_first (starts own) (lift own).satisfies)
        (first_right first second day books.one.book books.other.book names a common.in_first (starts []) (lift []).satisfies)))
        (same_at second id c a (second_usages first second day)
        (both_right second (named second.codes names) c a (second_usages first second day)
        (second_right first second day books.one.book books.other.book names c common.in_first (starts own) (lift own).satisfies)
        (second_right first second day books.one.book books.other.book names a common.in_first (starts []) (lift []).satisfies)))
        (keys_of (uses first (usages_at first id (first_usages first second day))) (uses second (usages_at second id (second_usages first second day))))

    same_together : (qs : List Place) → together_values c (place_keys first second day qs) ≡ together_values a (place_keys first second day qs)
    same_together [] = refl
    same_together (q ∷ qs) = rw (same_position_values c a (asked_keys first second day q.id) (same_keys q.id), same_together qs) refl

    values : Values c (joint_variables first second day) (together_values c (place_keys first second day ps))
    values =
        subst (λ (ts : List Bool). Values c (joint_variables first second day) ts) (sym (same_together ps))
        (values_from_names c z (joint_variables first second day) (together_values a (place_keys first second day ps))
        (subst (λ (k : ℕ). Names c z (m + k) own) (length-items_named (joint_items first second day)) (names_last c z m named_rules own (lift own).names)))

    sat : Sat (searched_clauses first second day ps) c
    sat =
        all-append _ (joint_clauses first second day) _ (lift own).satisfies
        (sat_from_together c (length first.codes) (joint_variables first second day) (place_keys first second day ps) (lift own).begins.truth values)

    module _ (at : ℕ) (p : Place) (there : slice_get ps at ≡ Some p) where
      assumed : list_any (differs a) (asked_keys first second day p.id) ≡ true → is_true c (goal_at first second day ps at) ≡ true
      assumed some =
          goal_by_values c (length first.codes) (joint_variables first second day) (place_keys first second day ps) at (asked_keys first second day p.id) (lift own).begins.truth values (keys_there first second day ps at p there)
          ∙ same_any_differs c a (asked_keys first second day p.id) (same_keys p.id) ∙ some

      -- where they choose otherwise, an assignment that satisfies the clauses has the position's goal
      pub lifts_other : (chosen first day p.id (named first.codes names) ≡ chosen second day p.id (named second.codes names) → ⊥)
          → (b : ℕ → Bool) × Sat (searched_clauses first second day ps) b × (is_true b (goal_at first second day ps at) ≡ true)
      lifts_other apart = (
        c,
        sat,
        assumed (elim (cases_Bool (list_any (differs a) (asked_keys first second day p.id))) [
          | inl some ↦ some
          | inr none ↦ absurd (apart (alike_if p.id none))
        ]),
      )

-- over the clauses of one position alone
pub left_alone : (first second : Contents) (day budget : ℕ) (p : Place) (learnt : List (List ℕ))
    → IsSpent (searched_variables first second day (p ∷ [])) (searched_clauses first second day (p ∷ [])) (goal_at first second day (p ∷ []) 0 ∷ []) budget learnt → IsLeft first second day budget p.id learnt
left_alone first second day budget p learnt spent =
    let variables : searched_variables first second day (p ∷ []) ≡ asked_variables first second day p.id = omega arith in
    let clauses = append-nil (position_clauses (length first.codes) (joint_variables first second day) (asked_keys first second day p.id)) in
    rw (variables, clauses) at spent
