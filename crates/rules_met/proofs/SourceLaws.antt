-- The clauses of rules say which of them a car of the day meets.
use Rattle.std.proofs.Common.{◌≡◌, ℕ, zero, suc, ◌+◌, ◌*◌, ◌^◌, ◌<◌, ◌≤◌, Bool, true, List, [], ◌∷◌, ◌++◌, Some, length, map, get_or, refl, sym, ap, subst, ◌∙◌, arith, All}
use Rattle.std.specs.List.{AllByRecursion, filter, slice_get, sum_by}
use Rattle.std.proofs.lemmas.Bool.{and_parts, and_from}
use Rattle.std.proofs.lemmas.List.{length-map, get_or-map}
use Rattle.std.proofs.lemmas.List.Elements.{All-get_or, recursion_from_All}
use Rattle.std.proofs.lemmas.List.Sums.{sum_by-cons}
use Rattle.std.proofs.lemmas.Option.{slice_get_within, get_or_from_slice_get}
use Rattle.pb_base.specs.Node.{size, size_with}
use Rattle.pb_base.specs.Rule.{Rule, code, negation, both, either, always, never, holds, nodes}
use Rattle.pb_base.specs.Sets.{has}
use Rattle.book_model.specs.Activity.{is_within}
use Rattle.book_model.specs.Book.{IsBook, ConstructFits, RuleFits, SupplementFits}
use Rattle.book_model.specs.Contents.{Contents}
use Rattle.book_model.specs.Good.{is_good}
use Rattle.book_model.specs.declared.record.Construct.{Construct}
use Rattle.book_model.specs.declared.record.Supplement.{Supplement}
use Rattle.book_model.proofs.BookLimits.{constructs_below}
use Rattle.clause_pool.specs.Literal.{literal, is_true}
use Rattle.clause_pool.specs.Clause.{AreBelow, Sat}
use Rattle.clause_pool.proofs.ClauseLaws.{IsBelow-clause_of}
use Rattle.clausify.specs.Coded.{usages_start}
use Rattle.clausify.specs.Formulas.{connectives, formula_literal, literals_from}
use Rattle.clausify.specs.Items.{Item, construct_item, encoded_items, free_item, rule_items, supplement_item, variables_of}
use Rattle.clausify.proofs.Bounds.{connectives_below, demand_item_below, variables_below}
use Rattle.clausify.proofs.FormulaLaws.{Begins, Names, names_last}
use Rattle.clausify.proofs.ItemLaws.{AllBelow, AllFit, AllMeet, free_items_fit, free_items_met, good_from_meets, items_named, items_named-append, length-items_named, literals_true, meets_from_good, rule_items_fit, variables_of-append}
use Rattle.clausify.proofs.LiftLaws.{IsLiftedOver, IsOver, items_over, lift_items, lifted}
use Rattle.clausify.proofs.ListLaws.{all-append, all_first, all_weaker}
use Rattle.clausify.proofs.RangeLaws.{items_below, literal_below, positive_below}
use Rattle.inquiry.specs.Form.{IsLawful}
use Rattle.rules_met.specs.Met.{RuleIsSmall, asked_items, asked_clauses, asked_literals, asked_variables, meets_rule}
use Rattle.rules_met.specs.Source.{AreRules, form, rule_at, rules_at}

-- a formula has no more connectives than it is kept in nodes
nodes_kept : (f : Rule) (more : ℕ) → nodes f + more ≤ size_with f more
nodes_kept (code place) more = omega arith
nodes_kept (negation f) more = omega (arith, nodes_kept f (suc more))
nodes_kept (both f g) more = omega (arith, nodes_kept g (suc more), nodes_kept f (suc (size_with g (suc more))))
nodes_kept (either f g) more = omega (arith, nodes_kept g (suc more), nodes_kept f (suc (size_with g (suc more))))
nodes_kept always more = omega arith
nodes_kept never more = omega arith

connectives_kept : (f : Rule) → connectives f ≤ size f
connectives_kept f = omega (arith, connectives_below f, nodes_kept f 0)

-- the day's rules take few variables
fitting_few : (n : ℕ) (f : Rule) → RuleFits n f → connectives f ≤ 512
fitting_few n f h = omega (arith, connectives_below f, h.size)

rule_variables_few : (b : Contents) (day : ℕ) → IsBook b → variables_of (rule_items b day) ≤ 8192000
rule_variables_few b day book =
    let n : ℕ = length b.codes in
    let supplements = variables_below (λ (s : Supplement). is_within s.from s.until day) supplement_item b.supplements
    (all_weaker (SupplementFits n) (λ s. connectives s.rule ≤ 512) (λ s h. fitting_few n s.rule h.rule) b.supplements (recursion_from_All (SupplementFits n) b.supplements book.supplements_fit)) in
    let constructs = variables_below (λ (c : Construct). is_within c.from c.until day) construct_item b.constructs
    (all_weaker (ConstructFits n) (λ c. connectives (construct_item c).rule ≤ 512) (λ c h. demand_item_below n c.demand h.demand) b.constructs (recursion_from_All (ConstructFits n) b.constructs book.constructs_fit)) in
    omega (
      arith,
      variables_of-append (map supplement_item (filter (λ s. is_within s.from s.until day) b.supplements)) (map construct_item (filter (λ c. is_within c.from c.until day) b.constructs)),
      supplements,
      constructs,
      book.supplements_limit,
      constructs_below b book,
    )

pub start_few : (b : Contents) (day : ℕ) → IsBook b → usages_start b day ≤ 2 ^ 30
start_few b day book = omega (arith, rule_variables_few b day book, book.codes_limit)

pub length-literals : (n v : ℕ) (gs : List Rule) → length (literals_from n v gs) ≡ length gs
length-literals n v [] = refl
length-literals n v (g ∷ gs) = ap suc (length-literals n (v + connectives g) gs)

literal_at_below : (n v m : ℕ) (gs : List Rule) (place : ℕ) → AllBelow n gs → n < v → v + variables_of (map free_item gs) ≤ m → place < length gs
    → get_or (literals_from n v gs) place 0 < 2 * m
literal_at_below n v m [] place below past within low = absurd (omega (arith, low))
literal_at_below n v m (g ∷ gs) zero below past within low = literal_below n n v m g below.0 (omega (arith, past)) past (omega (arith, within))
literal_at_below n v m (g ∷ gs) (suc place) below past within low =
    literal_at_below n (v + connectives g) m gs place below.1 (omega (arith, past)) (omega (arith, within)) (omega (arith, low))

-- two lists with the same truths have them at each place
same_at : (p : ℕ → Bool) (q : Rule → Bool) (ls : List ℕ) (gs : List Rule) (place : ℕ) → map p ls ≡ map q gs → place < length gs
    → p (get_or ls place 0) ≡ q (get_or gs place never)
same_at p q ls [] place same low = absurd (omega (arith, low))
same_at p q [] (g ∷ gs) place same low = absurd (cc)
same_at p q (l ∷ ls) (g ∷ gs) zero same low = cc
same_at p q (l ∷ ls) (g ∷ gs) (suc place) same low =
    let rest : map p ls ≡ map q gs = cc in
    let less : place < length gs = omega (arith, low) in
    same_at p q ls gs place rest less

module _ (b : Contents) (day : ℕ) (fs : List Rule) (ready : AreRules b fs) where
  below_all : (places : List ℕ) → AllByRecursion (λ (place : ℕ). place < length fs) places → AllBelow (length b.codes) (rules_at fs places)
  below_all [] posed = tt
  below_all (place ∷ places) posed = ((All-get_or (RuleIsSmall (length b.codes)) fs place never posed.0 ready.small).in_range, below_all places posed.1)

  fit_all : (places : List ℕ) → AllByRecursion (λ (place : ℕ). place < length fs) places → AllFit (length b.codes) (asked_items b day (rules_at fs places))
  fit_all places posed =
      all-append _ (rule_items b day) (map free_item (rules_at fs places)) (rule_items_fit b day ready.book.supplements_fit ready.book.constructs_fit)
      (free_items_fit (length b.codes) (rules_at fs places) (below_all places posed))

  variables_are : (gs : List Rule) → asked_variables b day gs ≡ usages_start b day + variables_of (map free_item gs)
  variables_are gs = omega (arith, variables_of-append (rule_items b day) (map free_item gs))

  -- the literals of the rules have their truths
  all_true : (gs : List Rule) (x : List Bool) (a : ℕ → Bool) → AllBelow (length b.codes) gs → Begins (length b.codes) (length b.codes) x a
      → Names a x (length b.codes + 1) (items_named (asked_items b day gs)) → map (is_true a) (asked_literals b day gs) ≡ map (λ g. holds g x) gs
  all_true gs x a below begins names =
      let n : ℕ = length b.codes in
      let is : List Item = rule_items b day in
      let split : Names a x (n + 1) (items_named is ++ items_named (map free_item gs)) = subst (Names a x (n + 1)) (items_named-append is (map free_item gs)) names in
      let later : Names a x (n + 1 + length (items_named is)) (items_named (map free_item gs)) = names_last a x (n + 1) (items_named is) (items_named (map free_item gs)) split in
      let there : Names a x (usages_start b day) (items_named (map free_item gs)) =
      subst (λ (k : ℕ). Names a x (n + 1 + k) (items_named (map free_item gs))) (length-items_named is) later in
      literals_true n x a begins (usages_start b day) gs below there

  rule_there : (places : List ℕ) (k place : ℕ) → slice_get places k ≡ Some place → get_or (rules_at fs places) k never ≡ rule_at fs place
  rule_there places k place there =
      get_or-map (rule_at fs) places k place never (slice_get_within places k place there) ∙ ap (rule_at fs) (get_or_from_slice_get places k place place there)

  goal_true : (places : List ℕ) (k place : ℕ) (x : List Bool) (a : ℕ → Bool) → AllByRecursion (λ (q : ℕ). q < length fs) places → slice_get places k ≡ Some place
      → Begins (length b.codes) (length b.codes) x a → Names a x (length b.codes + 1) (items_named (asked_items b day (rules_at fs places)))
      → is_true a (get_or (asked_literals b day (rules_at fs places)) k 0) ≡ holds (rule_at fs place) x
  goal_true places k place x a posed there begins names =
      let gs : List Rule = rules_at fs places in
      let low : k < length gs = omega (arith, slice_get_within places k place there, length-map places (rule_at fs)) in
      same_at (is_true a) (λ g. holds g x) (asked_literals b day gs) gs k (all_true gs x a (below_all places posed) begins names) low
      ∙ ap (λ (g : Rule). holds g x) (rule_there places k place there)

  free_few : (places : List ℕ) → variables_of (map free_item (rules_at fs places)) ≤ sum_by (λ (place : ℕ). size (rule_at fs place)) places
  free_few [] = omega arith
  free_few (place ∷ places) = omega (arith, connectives_kept (rule_at fs place), free_few places, sum_by-cons (λ (q : ℕ). size (rule_at fs q)) place places)

  pub lawful : IsLawful (form b day fs) (λ (place : ℕ). place < length fs) (λ x. is_good b day x ≡ true)
  lawful = record {
    below = λ places posed.
        let n : ℕ = length b.codes in
        let m : ℕ = asked_variables b day (rules_at fs places) in
        let is : List Item = asked_items b day (rules_at fs places) in (
          IsBelow-clause_of (2 * m) (literal n true ∷ []) (positive_below n m (omega arith), tt),
          items_below n n (n + 1) m is (fit_all places posed) (omega arith) (omega arith) (omega arith),
        );
    codes_within = λ places. omega arith;
    goals_counted = λ places. length-literals (length b.codes) (usages_start b day) (rules_at fs places) ∙ length-map places (rule_at fs);
    goals_below = λ places posed k low.
        let gs : List Rule = rules_at fs places in
        literal_at_below (length b.codes) (usages_start b day) (asked_variables b day gs) gs k (below_all places posed) (omega arith) (omega (arith, variables_are gs)) (omega (arith, low, length-map places (rule_at fs)));
    lifts = λ places posed k place there x len met.
        let n : ℕ = length b.codes in
        let gs : List Rule = rules_at fs places in
        let is : List Item = asked_items b day gs in
        let a : ℕ → Bool = lifted n (n + 1) x (items_named is ++ []) in
        let all_met : AllMeet x is = all-append _ (rule_items b day) (map free_item gs) (meets_from_good b day x (and_parts (is_good b day x) (holds (rule_at fs place) x) met).0) (free_items_met x gs) in
        let l : IsLiftedOver n n (n + 1) is [] x a = lift_items n n (n + 1) is [] x (omega arith) (omega arith) (λ (h : n < n). absurd (omega (arith, h))) (fit_all places posed) all_met in
        let names : Names a x (n + 1) (items_named is) = subst (Names a x (n + 1)) (nothing_more (items_named is)) l.names in
        record {
          assignment = a;
          satisfies = l.satisfies;
          meets_it = goal_true places k place x a posed there l.begins names ∙ (and_parts (is_good b day x) (holds (rule_at fs place) x) met).1;
        };
    reads = λ places posed k place there x a len begins sat assumed.
        let n : ℕ = length b.codes in
        let gs : List Rule = rules_at fs places in
        let is : List Item = asked_items b day gs in
        let o : IsOver n n (n + 1) is x a = items_over n n (n + 1) is x a (fit_all places posed) begins sat in
        and_from (is_good b day x) (holds (rule_at fs place) x) (good_from_meets b day x len (all_first _ (rule_items b day) (map free_item gs) o.meets))
        (sym (goal_true places k place x a posed there o.begins o.names) ∙ assumed);
    may_show = λ place posed x len met. (and_parts (is_good b day x) (holds (rule_at fs place) x) met).0;
    added = λ places posed. omega (arith, variables_are (rules_at fs places), free_few places);
    shared_few = start_few b day ready.book;
    size_few = λ place posed. (All-get_or (RuleIsSmall (length b.codes)) fs place never posed ready.small).small;
  }
    where
      nothing_more : (gs : List Rule) → gs ++ [] ≡ gs
      nothing_more [] = refl
      nothing_more (g ∷ gs) = ap (λ (hs : List Rule). g ∷ hs) (nothing_more gs)
