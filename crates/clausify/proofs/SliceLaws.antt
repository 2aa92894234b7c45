-- The clauses of a slice are satisfied over just the good sets, over each in one way.
use Rattle.std.proofs.Common.{◌≡◌, ℕ, ◌+◌, ◌<◌, Bool, true, List, [], ◌∷◌, ◌++◌, length, map, refl, sym, ap, subst, ◌∙◌, arith, length-append}
use Rattle.pb_base.specs.Rule.{Rule}
use Rattle.book_model.specs.Contents.{Contents}
use Rattle.book_model.specs.Book.{IsBook}
use Rattle.book_model.specs.Good.{is_good}
use Rattle.clause_pool.specs.Clause.{Sat}
use Rattle.clausify.specs.Items.{rule_items, usage_items, items, variables_of, usage_item}
use Rattle.clausify.specs.Choices.{Choice, choices}
use Rattle.clausify.specs.Goals.{goals_variables, goals_clauses, codes_asked_from}
use Rattle.clausify.specs.Coded.{usages_start, goals_start, numbered_choices, core_clauses, slice_clauses, slice_variables, slice_asked}
use Rattle.clausify.specs.Lifting.{BeginsWith, GoalsTrue, CodesGoodSets}
use Rattle.clausify.proofs.ListLaws.{all-append, all_first, all_last}
use Rattle.clausify.proofs.Truth.{true_positive}
use Rattle.clausify.proofs.FormulaLaws.{Names, Begins, names-append, names_first, names_last}
use Rattle.clausify.proofs.ItemLaws.{AllFit, AllMeet, items_named, items_named-append, length-items_named, rule_items_fit, good_from_meets, meets_from_good, length_from_good}
use Rattle.clausify.proofs.GoalLaws.{UsagesFit, usages_fit, all_usage_items_fit, choices_named, length-choices_named, sat_from_choices, names_from_choices, choices_active, choices_goals, codes_goals}
use Rattle.clausify.proofs.LiftLaws.{lifted, IsLiftedOver, lift_items, IsOver, items_over, alone_named}

-- what all further variables stand for
abbrev slice_named : Contents → ℕ → List Rule
slice_named b day = items_named (items b day) ++ choices_named b (length b.codes) (usages_start b day) (choices b day)

record Whole (b : Contents) (day : ℕ) : Type 0 where
  fit : AllFit (length b.codes) (items b day)
  usages : UsagesFit b

whole : (b : Contents) (day : ℕ) → IsBook b → Whole b day
whole b day book =
    let usages = usages_fit b book.variants_fit in
    record {
      fit = all-append _ (rule_items b day) (usage_items b (choices b day)) (rule_items_fit b day book.supplements_fit book.constructs_fit) (all_usage_items_fit b usages (choices b day));
      usages = usages;
    }

pub items_fit : (b : Contents) (day : ℕ) → IsBook b → AllFit (length b.codes) (items b day)
items_fit b day book = (whole b day book).fit

-- the names of the usages
usage_names : (b : Contents) (day : ℕ) (x : List Bool) (a : ℕ → Bool) → Names a x (length b.codes + 1) (items_named (items b day)) → Names a x (usages_start b day) (items_named (usage_items b (choices b day)))
usage_names b day x a h =
    let split = subst (λ (fs : List Rule). Names a x (length b.codes + 1) fs) (items_named-append (rule_items b day) (usage_items b (choices b day))) h in
    subst (λ (k : ℕ). Names a x (length b.codes + 1 + k) (items_named (usage_items b (choices b day)))) (length-items_named (rule_items b day))
    (names_last a x (length b.codes + 1) (items_named (rule_items b day)) (items_named (usage_items b (choices b day))) split)

-- the names of the goals
goal_names : (b : Contents) (day : ℕ) (x : List Bool) (a : ℕ → Bool) → Names a x (length b.codes + 1) (slice_named b day) → Names a x (goals_start b day) (choices_named b (length b.codes) (usages_start b day) (choices b day))
goal_names b day x a h =
    subst (λ (k : ℕ). Names a x (length b.codes + 1 + k) (choices_named b (length b.codes) (usages_start b day) (choices b day))) (length-items_named (items b day))
    (names_last a x (length b.codes + 1) (items_named (items b day)) _ h)

-- of a usage nothing is claimed
usage_met : (b : Contents) (x : List Bool) (variants : List ℕ) → AllMeet x (map (usage_item b) variants)
usage_met b x [] = tt
usage_met b x (variant ∷ variants) = (refl, usage_met b x variants)

usages_met : (b : Contents) (x : List Bool) (cs : List Choice) → AllMeet x (usage_items b cs)
usages_met b x [] = tt
usages_met b x (c ∷ cs) = all-append _ (map (usage_item b) c.variants) _ (usage_met b x c.variants) (usages_met b x cs)

-- the clauses of the rules and usages, without the goals
over_core : (b : Contents) (day : ℕ) → Whole b day → (x : List Bool) (a : ℕ → Bool) → length x ≡ length b.codes → BeginsWith x a → Sat (core_clauses b day) a
    → IsOver (length b.codes) (length b.codes) (length b.codes + 1) (items b day) x a
over_core b day w x a len begins sat =
    items_over (length b.codes) (length b.codes) (length b.codes + 1) (items b day) x a w.fit (λ i below. begins i (omega (arith, len))) sat

good_over : (b : Contents) (day : ℕ) (x : List Bool) → length x ≡ length b.codes → AllMeet x (items b day) → is_good b day x ≡ true
good_over b day x len met = good_from_meets b day x len (all_first _ (rule_items b day) (usage_items b (choices b day)) met)

meets_good : (b : Contents) (day : ℕ) (x : List Bool) → is_good b day x ≡ true → AllMeet x (items b day)
meets_good b day x good = all-append _ (rule_items b day) _ (meets_from_good b day x good) (usages_met b x (choices b day))

-- the goals
goals_sat : (b : Contents) (day : ℕ) → Whole b day → (x : List Bool) (a : ℕ → Bool) → Begins (length b.codes) (length b.codes) x a → Names a x (length b.codes + 1) (slice_named b day) → Sat (goals_clauses (numbered_choices b day)) a
goals_sat b day book x a begins h =
    sat_from_choices b book.usages x a begins (usages_start b day) (goals_start b day) (choices b day)
    (usage_names b day x a (names_first a x (length b.codes + 1) (items_named (items b day)) _ h)) (goal_names b day x a h)

goals_named : (b : Contents) (day : ℕ) → Whole b day → (x : List Bool) (a : ℕ → Bool) → Begins (length b.codes) (length b.codes) x a → Names a x (length b.codes + 1) (items_named (items b day)) → Sat (goals_clauses (numbered_choices b day)) a → Names a x (length b.codes + 1) (slice_named b day)
goals_named b day book x a begins named sat =
    names-append a x (length b.codes + 1) (items_named (items b day)) _ named
    (subst (λ (k : ℕ). Names a x (length b.codes + 1 + k) (choices_named b (length b.codes) (usages_start b day) (choices b day))) (sym (length-items_named (items b day)))
    (names_from_choices b book.usages x a begins (usages_start b day) (goals_start b day) (choices b day) (usage_names b day x a named) sat))

goals_from_names : (b : Contents) (day : ℕ) → Whole b day → (x : List Bool) (a : ℕ → Bool) → Begins (length b.codes) (length b.codes) x a → Names a x (length b.codes + 1) (slice_named b day) → GoalsTrue b day x a (slice_asked b day)
goals_from_names b day book x a begins h =
    let named = names_first a x (length b.codes + 1) (items_named (items b day)) _ h in (
      true_positive a (length b.codes) ∙ begins.truth,
      all-append _ (codes_asked_from 0 b.codes) _ (codes_goals b day x a begins 0 b.codes (omega arith))
          (choices_goals b day book.usages x a begins (usages_start b day) (goals_start b day) (choices b day) (choices_active b day) (usage_names b day x a named) (goal_names b day x a h)),
    )

length-slice_named : (b : Contents) (day : ℕ) → length b.codes + 1 + length (slice_named b day) ≡ slice_variables b day
length-slice_named b day =
    let total : length (slice_named b day) ≡ variables_of (items b day) + goals_variables (numbered_choices b day) =
    length-append (items_named (items b day)) (choices_named b (length b.codes) (usages_start b day) (choices b day))
    ∙ ap (λ (k : ℕ). k + length (choices_named b (length b.codes) (usages_start b day) (choices b day))) (length-items_named (items b day))
    ∙ ap (λ (k : ℕ). variables_of (items b day) + k) (length-choices_named b (length b.codes) (usages_start b day) (goals_start b day) (choices b day)) in
    omega (arith, total)

-- an assignment that satisfies all clauses
record OverSlice (b : Contents) (day : ℕ) (x : List Bool) (a : ℕ → Bool) : Type 0 where
  begins : Begins (length b.codes) (length b.codes) x a
  meets : AllMeet x (items b day)
  names : Names a x (length b.codes + 1) (slice_named b day)

over_slice : (b : Contents) (day : ℕ) → Whole b day → (x : List Bool) (a : ℕ → Bool) → length x ≡ length b.codes → BeginsWith x a → Sat (slice_clauses b day) a → OverSlice b day x a
over_slice b day w x a len begins sat =
    let over = over_core b day w x a len begins (all_first _ (core_clauses b day) (goals_clauses (numbered_choices b day)) sat) in
    record {
      begins = over.begins;
      meets = over.meets;
      names = goals_named b day w x a over.begins over.names (all_last _ (core_clauses b day) (goals_clauses (numbered_choices b day)) sat);
    }

pub codes_good_sets : (b : Contents) (day : ℕ) → IsBook b → CodesGoodSets b day (slice_clauses b day) (slice_variables b day) (slice_asked b day)
codes_good_sets b day book =
    let n : ℕ = length b.codes in
    let w = whole b day book in
    let goals : List Rule = choices_named b n (usages_start b day) (choices b day) in
    record {
      lifts = λ x good.
          let len = length_from_good b day x good in
          let a : ℕ → Bool = lifted n (n + 1) x (slice_named b day) in
          let l : IsLiftedOver n n (n + 1) (items b day) goals x a =
          lift_items n n (n + 1) (items b day) goals x (omega arith) (omega arith) (λ (h : n < n). absurd (omega arith)) w.fit (meets_good b day x good) in (
            a,
            record {
              begins = λ i below. l.begins.codes i (omega (arith, len));
              satisfies = all-append _ (core_clauses b day) _ l.satisfies (goals_sat b day w x a l.begins l.names);
              goals = goals_from_names b day w x a l.begins l.names;
              alone = λ c bc sat v within.
                  let other = over_slice b day w x c len bc sat in
                  alone_named n x a c (slice_named b day) l.begins other.begins l.names other.names v (omega (arith, length-slice_named b day));
            },
          );
      begins_good = λ a x len begins sat.
          let over = over_slice b day w x a len begins sat in
          record {
            is_good_then = good_over b day x len over.meets;
            goals = goals_from_names b day w x a over.begins over.names;
          };
    }
