-- The clauses of two books: a car that both allow begins an assignment that satisfies them, and an assignment that satisfies them
-- begins with a car that both allow, over which the literals of the usages are the truth of theirs.
use Rattle.std.proofs.Common.{◌≡◌, ℕ, ◌+◌, ◌-◌, ◌<◌, Bool, true, false, not, ◌||◌, List, [], ◌∷◌, ◌++◌, Some, length, map, refl, sym, ap, subst, ◌∙◌, inl, inr, arith, length-append}
use Rattle.std.specs.List.{AllByRecursion, slice_get, list_any}
use Rattle.std.proofs.lemmas.Bool.{and_from, lt-ltb, cases_lt, cases_eq}
use Rattle.std.proofs.lemmas.List.{length-map, get_or_append_left, get_or_past}
use Rattle.std.proofs.lemmas.Option.{slice_get_within}
use Rattle.std.proofs.Math.Seq.{get_or-append_seam}
use Rattle.pb_base.specs.Rule.{Rule, holds}
use Rattle.pb_base.specs.Sets.{has}
use Rattle.pb_base.specs.Names.{same_name}
use Rattle.pb_base.specs.NamedSet.{named}
use Rattle.pb_base.proofs.LeafLaws.{AtPlaces, holds-with_places, codes_below-with_places}
use Rattle.pb_base.proofs.NamedSets.{has-named}
use Rattle.book_model.specs.Book.{IsBook}
use Rattle.book_model.specs.Contents.{Contents}
use Rattle.book_model.specs.Good.{is_good}
use Rattle.clause_pool.specs.Literal.{literal, complement}
use Rattle.clause_pool.specs.Clause.{Sat}
use Rattle.clause_pool.proofs.LiteralLaws.{is_true-complement}
use Rattle.clausify.specs.Formulas.{connectives}
use Rattle.clausify.specs.Items.{Item, variables_of, item_clauses, rule_items, usage_item, usage_items, items}
use Rattle.clausify.specs.Choices.{Choice, choices, usage}
use Rattle.clausify.proofs.ListLaws.{all-append, all_first, all_last}
use Rattle.clausify.proofs.Truth.{true_positive, one_true}
use Rattle.clausify.proofs.FormulaLaws.{named_in, Names, Begins, length-named_in, names_first, names_last, denotes}
use Rattle.clausify.proofs.ItemLaws.{AllFit, AllMeet, items_named, items_named-append, length-items_named, item_clauses-append, names_from_items, meets_from_items, rule_items_fit, good_from_meets, meets_from_good}
use Rattle.clausify.proofs.GoalLaws.{UsagesFit, usages_fit, AllRight, right_from_choices}
use Rattle.clausify.proofs.SliceLaws.{items_fit}
use Rattle.clausify.proofs.LiftLaws.{lifted, IsLiftedOver, lift_items, truth_from_sat}
use Rattle.book_compare.specs.Common.{IsCommon}
use Rattle.pb_base.specs.Picked.{AreNamed}
use Rattle.book_compare.specs.Numbering.{numbers_of, missing_from, added_from, alone}
use Rattle.book_compare.specs.JointItems.{absent_item, absent_items, renamed_item, day_variants, renamed_usage, renamed_usage_items, renamed_usages, second_items, joint_items, first_variable, joint_clauses, first_rules_at, first_usages_at, second_rules_at, second_usages_at, first_usages, second_usages}
use Rattle.clausify.proofs.AgreeLaws.{Agree, holds_agree, all_meet_agree, all_fit_more}
use Rattle.book_compare.proofs.NumberLaws.{length-numbers_from, numbers_below, number_has, added_at, all_added, missing_absent, missing_below, added_below}
use Rattle.book_compare.proofs.RenameLaws.{all_meet_renamed, all_meet_own, all_fit_renamed}

-- codes that only one book has

off : (t : Bool) → (not t || false) ≡ true → t ≡ false
off true h = sym h
off false h = refl

absent_from_sat : (n v : ℕ) (a : ℕ → Bool) (vs : List ℕ) → Sat (item_clauses n v (map absent_item vs)) a → AllByRecursion (λ i. a i ≡ false) vs
absent_from_sat n v a [] sat = tt
absent_from_sat n v a (i ∷ vs) sat = (
  off (a i) (ap (λ t. not t || false) (sym (true_positive a i)) ∙ ap (λ t. t || false) (sym (is_true-complement a (literal i true))) ∙ sym (one_true a (complement (literal i true))) ∙ sat.0),
  absent_from_sat n (v + connectives (absent_item i).rule) a vs sat.1,
)

absent_met : (z : List Bool) (vs : List ℕ) → AllByRecursion (λ v. has z v ≡ false) vs → AllMeet z (map absent_item vs)
absent_met z [] gone = tt
absent_met z (v ∷ vs) gone = (ap not gone.0, absent_met z vs gone.1)

absent_fit : (m : ℕ) (vs : List ℕ) → AllByRecursion (λ v. v < m) vs → AllFit m (map absent_item vs)
absent_fit m [] below = tt
absent_fit m (v ∷ vs) below = (and_from _ _ (lt-ltb v m below.0) refl, absent_fit m vs below.1)

-- usages, of which nothing is claimed

usage_met : (b : Contents) (x : List Bool) (variants : List ℕ) → AllMeet x (map (usage_item b) variants)
usage_met b x [] = tt
usage_met b x (variant ∷ variants) = (refl, usage_met b x variants)

usages_met : (b : Contents) (x : List Bool) (cs : List Choice) → AllMeet x (usage_items b cs)
usages_met b x [] = tt
usages_met b x (c ∷ cs) = all-append _ (map (usage_item b) c.variants) _ (usage_met b x c.variants) (usages_met b x cs)

renamed_met : (numbers : List ℕ) (b : Contents) (z : List Bool) (variants : List ℕ) → AllMeet z (renamed_usage_items numbers b variants)
renamed_met numbers b z [] = tt
renamed_met numbers b z (variant ∷ variants) = (refl, renamed_met numbers b z variants)

renamed_usages_fit : (numbers : List ℕ) (m : ℕ) (b : Contents) → UsagesFit b → AllByRecursion (λ n. n < m) numbers → (variants : List ℕ) → AllFit m (renamed_usage_items numbers b variants)
renamed_usages_fit numbers m b fit below [] = tt
renamed_usages_fit numbers m b fit below (variant ∷ variants) =
    (and_from _ _ (codes_below-with_places (length b.codes) m numbers below (usage b variant) (fit.below variant)) refl, renamed_usages_fit numbers m b fit below variants)

-- their literals are the truth of the formulas over the book's own set
renamed_right : (numbers : List ℕ) (m n : ℕ) (b : Contents) (y z : List Bool) (a : ℕ → Bool) → UsagesFit b → AllByRecursion (λ k. k < m) numbers → AtPlaces numbers y z → Begins m n z a
    → (v : ℕ) (variants : List ℕ) → Names a z v (items_named (renamed_usage_items numbers b variants)) → AllRight b y a (renamed_usages numbers b n v variants)
renamed_right numbers m n b y z a fit below at begins v [] names = tt
renamed_right numbers m n b y z a fit below at begins v (k ∷ ks) names =
    let f : Rule = renamed_usage numbers b k in (
      denotes n z a begins v f (codes_below-with_places (length b.codes) m numbers below (usage b k) (fit.below k)) (names_first a z v (named_in f) (items_named (renamed_usage_items numbers b ks)) names)
          ∙ holds-with_places numbers y z at (usage b k),
      renamed_right numbers m n b y z a fit below at begins (v + connectives f) ks
          (subst (λ (i : ℕ). Names a z (v + i) (items_named (renamed_usage_items numbers b ks))) (length-named_in f)
          (names_last a z v (named_in f) (items_named (renamed_usage_items numbers b ks)) names)),
    )

-- the names of later items
later_names : (a : ℕ → Bool) (x : List Bool) (v : ℕ) (is js : List Item) → Names a x v (items_named (is ++ js)) → Names a x (v + variables_of is) (items_named js)
later_names a x v is js names =
    subst (λ (k : ℕ). Names a x (v + k) (items_named js)) (length-items_named is)
    (names_last a x v (items_named is) (items_named js) (subst (λ (fs : List Rule). Names a x v fs) (items_named-append is js) names))

module _ (first second : Contents) (day : ℕ) (one : IsBook first) (other : IsBook second) where
  abbrev n : ℕ
  n = length first.codes

  abbrev m : ℕ
  m = first_variable first second

  abbrev numbers : List ℕ
  numbers = numbers_of first.codes second.codes

  counted : length numbers ≡ length second.codes
  counted = length-numbers_from (length first.codes + 1) first.codes second.codes

  below : AllByRecursion (λ k. k < m) numbers
  below = numbers_below (length first.codes + 1) first.codes second.codes (omega arith)

  second_fit : AllFit (length numbers) (rule_items second day)
  second_fit = subst (λ (k : ℕ). AllFit k (rule_items second day)) (sym counted) (rule_items_fit second day other.supplements_fit other.constructs_fit)

  pub second_items_fit : AllFit m (second_items first second day)
  second_items_fit =
      all-append _ (map (renamed_item numbers) (rule_items second day)) (renamed_usage_items numbers second (day_variants second day))
      (all_fit_renamed numbers m below (rule_items second day) second_fit)
      (renamed_usages_fit numbers m second (usages_fit second other.variants_fit) below (day_variants second day))

  alone_below : AllByRecursion (λ v. v < m) (alone first.codes second.codes)
  alone_below =
      all-append _ (missing_from 0 second.codes first.codes) (added_from (length first.codes + 1) first.codes second.codes)
      (missing_below m 0 second.codes first.codes (omega arith)) (added_below (length first.codes + 1) first.codes second.codes)

  pub joint_fit : AllFit m (joint_items first second day)
  joint_fit =
      all-append _ (absent_items first second) (items first day ++ second_items first second day) (absent_fit m (alone first.codes second.codes) alone_below)
      (all-append _ (items first day) (second_items first second day) (all_fit_more n m (omega arith) (items first day) (items_fit first day one)) second_items_fit)

  -- a set of names, as the sets of both books, and as the values of the variables
  module _ (names : List (List ℕ)) where
    abbrev x : List Bool
    x = named first.codes names

    abbrev y : List Bool
    y = named second.codes names

    abbrev pub z : List Bool
    z = named first.codes names ++ true ∷ []

    x_counted : length x ≡ n
    x_counted = length-map first.codes (λ c. list_any (same_name c) names)

    y_counted : length y ≡ length second.codes
    y_counted = length-map second.codes (λ c. list_any (same_name c) names)

    agree : Agree n x z
    agree i within = get_or_append_left x (true ∷ []) false i (omega (arith, within, x_counted))

    z_truth : has z n ≡ true
    z_truth = subst (λ (k : ℕ). has z k ≡ true) x_counted (get_or-append_seam x true [] false)

    z_beyond : (k : ℕ) → has z (n + 1 + k) ≡ false
    z_beyond k = get_or_past z (n + 1 + k) false (omega (arith, length-append x (true ∷ []), x_counted))

    z_added : AllByRecursion (λ v. has z v ≡ false) (added_from (n + 1) first.codes second.codes)
    z_added = all_added (λ v. has z v ≡ false) (n + 1) first.codes second.codes z_beyond

    at_places : AreNamed first.codes names → AtPlaces numbers y z
    at_places are = record {
      length_is = y_counted ∙ sym counted;
      same = λ j number is. number_has first.codes names z are agree (n + 1) second.codes z_added j number is;
    }

    -- formulas of the two books that are the same with the variables of the first book's codes are true of the same cars
    pub same_truth : AreNamed first.codes names → (u w : ℕ) → usage first u ≡ renamed_usage (numbers_of first.codes second.codes) second w
        → holds (usage first u) (named first.codes names) ≡ holds (usage second w) (named second.codes names)
    same_truth are u w same =
        sym (holds_agree n x z agree (usage first u) ((usages_fit first one.variants_fit).below u))
        ∙ ap (λ (f : Rule). holds f z) same ∙ holds-with_places numbers y z (at_places are) (usage second w)

    z_missing : AreNamed second.codes names → AllByRecursion (λ v. has z v ≡ false) (missing_from 0 second.codes first.codes)
    z_missing are =
        missing_absent second.codes names z are 0 first.codes (λ j c is.
        let here : 0 + j ≡ j = omega arith in
        ap (has z) here ∙ agree j (slice_within j c is) ∙ has-named first.codes names c j is)
      where
        slice_within : (j : ℕ) (c : List ℕ) → slice_get first.codes j ≡ Some c → j < n
        slice_within j c is = slice_get_within first.codes j c is

    joint_met : IsCommon first second day names → AllMeet z (joint_items first second day)
    joint_met common =
        all-append _ (absent_items first second) (items first day ++ second_items first second day)
        (absent_met z (alone first.codes second.codes) (all-append _ (missing_from 0 second.codes first.codes) (added_from (n + 1) first.codes second.codes) (z_missing common.in_second) z_added))
        (all-append _ (items first day) (second_items first second day)
        (all_meet_agree n x z agree (items first day) (items_fit first day one)
        (all-append _ (rule_items first day) _ (meets_from_good first day x common.good_in_first) (usages_met first x (choices first day))))
        (all-append _ (map (renamed_item numbers) (rule_items second day)) _
        (all_meet_renamed numbers y z (at_places common.in_first) (rule_items second day) second_fit (meets_from_good second day y common.good_in_second))
        (renamed_met numbers second z (day_variants second day))))

    -- a car that both allow begins an assignment, with further truths of one's own
    pub lift_common : IsCommon first second day names → (own : List Rule)
        → IsLiftedOver m n m (joint_items first second day) own z (lifted n m z (items_named (joint_items first second day) ++ own))
    lift_common common own = lift_items m n m (joint_items first second day) own z (omega arith) (omega arith) (λ _. z_truth) joint_fit (joint_met common)

    -- what satisfies the clauses and begins with the names
    module _ (a : ℕ → Bool) (are : AreNamed first.codes names) (begins : (i : ℕ) → i < n → a i ≡ has x i) (sat : Sat (joint_clauses first second day) a) where
      truth : a n ≡ true
      truth = truth_from_sat n a sat.0

      absent_sat : Sat (item_clauses n m (absent_items first second)) a
      absent_sat =
          all_first _ (item_clauses n m (absent_items first second)) _
          (subst (λ (cs : List (List ℕ)). Sat cs a) (item_clauses-append n m (absent_items first second) (items first day ++ second_items first second day)) sat.1)

      behind_sat : Sat (item_clauses n (first_rules_at first second) (items first day ++ second_items first second day)) a
      behind_sat =
          all_last _ (item_clauses n m (absent_items first second)) _
          (subst (λ (cs : List (List ℕ)). Sat cs a) (item_clauses-append n m (absent_items first second) (items first day ++ second_items first second day)) sat.1)

      split_sat : Sat (item_clauses n (first_rules_at first second) (items first day) ++ item_clauses n (second_rules_at first second day) (second_items first second day)) a
      split_sat =
          subst (λ (cs : List (List ℕ)). Sat cs a) (item_clauses-append n (first_rules_at first second) (items first day) (second_items first second day)) behind_sat

      first_sat : Sat (item_clauses n (first_rules_at first second) (items first day)) a
      first_sat = all_first _ (item_clauses n (first_rules_at first second) (items first day)) _ split_sat

      second_sat : Sat (item_clauses n (second_rules_at first second day) (second_items first second day)) a
      second_sat = all_last _ (item_clauses n (first_rules_at first second) (items first day)) _ split_sat

      pub alone_false : AllByRecursion (λ v. a v ≡ false) (alone first.codes second.codes)
      alone_false = absent_from_sat n m a (alone first.codes second.codes) absent_sat

      begins_joint : Begins m n z a
      begins_joint = record {
        codes = λ i within. elim (cases_lt i n) [
          | inl low ↦ begins i low ∙ sym (agree i low)
          | inr high ↦ elim (cases_eq i n) [
            | inl same ↦ ap a same ∙ truth ∙ sym z_truth ∙ sym (ap (has z) same)
            | inr above ↦
                let k : ℕ = i - (n + 1) in
                let at : n + 1 + k ≡ i = omega (arith, high, above) in
                sym (ap a at)
                ∙ added_at (λ v. a v ≡ false) (n + 1) first.codes second.codes (all_last _ (missing_from 0 second.codes first.codes) _ alone_false) k (omega (arith, within, at))
                ∙ sym (z_beyond k) ∙ ap (has z) at
          ]
        ];
        truth = truth;
      }

      begins_first : Begins n n x a
      begins_first = record { codes = begins; truth = truth }

      pub first_good : is_good first day x ≡ true
      first_good =
          good_from_meets first day x x_counted
          (all_first _ (rule_items first day) _ (meets_from_items n x a begins_first (first_rules_at first second) (items first day) (items_fit first day one) first_sat))

      pub first_right : AllRight first x a (first_usages first second day)
      first_right =
          right_from_choices first (usages_fit first one.variants_fit) x a begins_first (first_usages_at first second day) (choices first day)
          (later_names a x (first_rules_at first second) (rule_items first day) (usage_items first (choices first day))
          (names_from_items n x a begins_first (first_rules_at first second) (items first day) (items_fit first day one) first_sat))

      pub second_good : is_good second day y ≡ true
      second_good =
          good_from_meets second day y y_counted
          (all_meet_own numbers y z (at_places are) (rule_items second day) second_fit
          (all_first _ (map (renamed_item numbers) (rule_items second day)) _
          (meets_from_items n z a begins_joint (second_rules_at first second day) (second_items first second day) second_items_fit second_sat)))

      pub second_right : AllRight second y a (second_usages first second day)
      second_right =
          renamed_right numbers m n second y z a (usages_fit second other.variants_fit) below (at_places are) begins_joint (second_usages_at first second day) (day_variants second day)
          (later_names a z (second_rules_at first second day) (map (renamed_item numbers) (rule_items second day)) (renamed_usage_items numbers second (day_variants second day))
          (names_from_items n z a begins_joint (second_rules_at first second day) (second_items first second day) second_items_fit second_sat))
