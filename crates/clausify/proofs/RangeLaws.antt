-- The literals of a slice's clauses and goals are of its variables, and its questions name records of the book.
use Rattle.std.proofs.Common.{inl, inr, ◌≡◌, ℕ, suc, ◌+◌, ◌-◌, ◌*◌, ◌<◌, ◌≤◌, Bool, true, false, eqb, Option, None, List, [], ◌∷◌, ◌++◌, length, map, drop, sym, ap, subst, arith}
use Rattle.std.specs.List.{flat_map, AllByRecursion, slice_get}
use Rattle.std.specs.Option.{IfSome}
use Rattle.std.proofs.lemmas.Bool.{and_parts, cases_Bool, cond-true, cond-false}
use Rattle.pb_base.specs.Rule.{Rule, codes_below}
use Rattle.book_model.specs.Contents.{Contents}
use Rattle.book_model.specs.Book.{IsBook}
use Rattle.book_model.specs.Parts.{variants_from, variants_of, is_active_position}
use Rattle.book_model.specs.declared.record.Position.{Position}
use Rattle.book_model.specs.declared.record.Variant.{Variant}
use Rattle.clause_pool.specs.Literal.{literal, complement}
use Rattle.clause_pool.specs.Clause.{AreBelow}
use Rattle.clause_pool.proofs.LiteralLaws.{complement-below}
use Rattle.clause_pool.proofs.ClauseLaws.{IsBelow-clause_of}
use Rattle.clausify.specs.Formulas.{connectives, formula_literal, formula_clauses, both_clauses, either_clauses}
use Rattle.clausify.specs.Items.{Claim, Item, claim_where, variables_of, item_clauses, own_clauses, usage_item, rule_items, usage_items, items}
use Rattle.clausify.specs.Choices.{Choice, choices, choices_from, usage, active_variants, is_active_variant}
use Rattle.clausify.specs.Questions.{QuestionFits, code_questions_from, choice_questions, uncovered_question}
use Rattle.clausify.specs.Pairs.{pairs}
use Rattle.clausify.specs.Goals.{usages_from, pair_clauses, pairs_asked, none_clauses, none_literal, uncovered_clauses, uncovered_literal, uncovered_asked, choice_variables, choice_clauses, choice_asked, superfluous_asked, numbered_from, goals_variables, goals_clauses, goals_asked, codes_asked_from}
use Rattle.clausify.specs.Coded.{usages_start, goals_start, numbered_choices, slice_clauses, slice_variables, slice_asked, IsCoded}
use Rattle.clausify.specs.Ranges.{IsInRange}
use Rattle.clausify.specs.declared.usage.Usage.{Usage}
use Rattle.clausify.specs.declared.question.Asked.{Asked}
use Rattle.clausify.specs.declared.question.Coded.{Coded}
use Rattle.clausify.specs.declared.question.Question.{Question}
use Rattle.clausify.specs.declared.question.Question.TheVariants.{Superfluous, Ambiguous}
use Rattle.clausify.proofs.ListLaws.{all-append, all-map, all_mapped, all_pairs, all_filtered}
use Rattle.clausify.proofs.ItemLaws.{AllFit, claim_fits, rule_items_fit, variables_of-append}
use Rattle.clausify.proofs.GoalLaws.{UsagesFit, usages_fit, all_usage_items_fit}
use Rattle.clausify.proofs.EachLaws.{Passes, each_both, each_either, literal_passes, formula_passes, claim_passes}
use Rattle.clausify.proofs.QuestionLaws.{asked_in_order}

pub positive_below : (v m : ℕ) → v < m → literal v true < 2 * m
positive_below v m h = omega arith

pub negative_below : (v m : ℕ) → v < m → literal v false < 2 * m
negative_below v m h = omega arith

pub complement_below : (l m : ℕ) → l < 2 * m → complement l < 2 * m
complement_below l m h = complement-below l m h

pub below_passes : (m : ℕ) → Passes (λ l. l < 2 * m) (λ v. v < m)
below_passes m = record { on = λ v h. positive_below v m h; off = λ v h. negative_below v m h; flip = λ l h. complement_below l m h }

pub both_below : (m v k l : ℕ) → v < m → k < 2 * m → l < 2 * m → AreBelow (2 * m) (both_clauses v k l)
both_below m v k l hv hk hl = each_both (below_passes m) v k l hv hk hl

pub either_below : (m v k l : ℕ) → v < m → k < 2 * m → l < 2 * m → AreBelow (2 * m) (either_clauses v k l)
either_below m v k l hv hk hl = each_either (below_passes m) v k l hv hk hl

-- a formula over the codes below c, whose variables go from v up to m, where n is always true
pub literal_below : (c n v m : ℕ) (f : Rule) → codes_below c f ≡ true → c ≤ v → n < v → v + connectives f ≤ m → formula_literal n v f < 2 * m
literal_below c n v m f fit codes h k = literal_passes (below_passes m) c n (λ i low. omega arith) (omega arith) v f fit (λ j low. omega arith)

pub formula_below : (c n v m : ℕ) (f : Rule) → codes_below c f ≡ true → c ≤ v → n < v → v + connectives f ≤ m → AreBelow (2 * m) (formula_clauses n v f)
formula_below c n v m f fit codes h k = formula_passes (below_passes m) c n (λ i low. omega arith) (omega arith) v f fit (λ j low. omega arith)

-- the clauses of a claim, where l is the literal of the formula, behind a guard or none
pub claim_below : (c m l : ℕ) (g : Option ℕ) (d : Claim) → IfSome g (λ k. k < m) → claim_fits c d ≡ true → c ≤ m → l < 2 * m → AreBelow (2 * m) (claim_where g d l)
claim_below c m l g d low fit h k = claim_passes (below_passes m) c (λ i less. omega arith) l g d low fit k

pub items_below : (c n v m : ℕ) (is : List Item) → AllFit c is → c ≤ v → n < v → v + variables_of is ≤ m → AreBelow (2 * m) (item_clauses n v is)
items_below c n v m [] fit codes h k = tt
items_below c n v m (i ∷ is) fit codes h k =
    let fits = and_parts (codes_below c i.rule) (claim_fits c i.claim) fit.0 in
    all-append _ (own_clauses n v i) (item_clauses n (v + connectives i.rule) is)
    (all-append _ (formula_clauses n v i.rule) _ (formula_below c n v m i.rule fits.0 codes h (omega arith))
    (claim_below c m (formula_literal n v i.rule) None i.claim tt fits.1 (omega arith) (literal_below c n v m i.rule fits.0 codes h (omega arith))))
    (items_below c n (v + connectives i.rule) m is fit.1 (omega arith) (omega arith) (omega arith))

-- the goals of usages whose literals are of variables below m
abbrev UsagesBelow : ℕ → List Usage → Type 0
UsagesBelow m us = AllByRecursion (λ u. u.literal < 2 * m) us

abbrev PairsBelow : ℕ → List (Usage × Usage) → Type 0
PairsBelow m ps = AllByRecursion (λ p. (p.0.literal < 2 * m) × (p.1.literal < 2 * m)) ps

abbrev GoalsBelow : ℕ → List Asked → Type 0
GoalsBelow m asked = AllByRecursion (λ q. q.goal < 2 * m) asked

usages_below : (b : Contents) → UsagesFit b → (v m : ℕ) (variants : List ℕ) → length b.codes < v → v + variables_of (map (usage_item b) variants) ≤ m → UsagesBelow m (usages_from b (length b.codes) v variants)
usages_below b fit v m [] h k = tt
usages_below b fit v m (variant ∷ variants) h k = (
  literal_below (length b.codes) (length b.codes) v m (usage b variant) (fit.below variant) (omega arith) h (omega arith),
  usages_below b fit (v + connectives (usage b variant)) m variants (omega arith) (omega arith),
)

pair_clauses_below : (m w : ℕ) (ps : List (Usage × Usage)) → PairsBelow m ps → w + length ps ≤ m → AreBelow (2 * m) (pair_clauses w ps)
pair_clauses_below m w [] h k = tt
pair_clauses_below m w (p ∷ ps) h k =
    all-append _ (both_clauses w p.0.literal p.1.literal) _ (both_below m w p.0.literal p.1.literal (omega arith) h.0.0 h.0.1) (pair_clauses_below m (w + 1) ps h.1 (omega arith))

pairs_asked_below : (m position w : ℕ) (ps : List (Usage × Usage)) → w + length ps ≤ m → GoalsBelow m (pairs_asked position w ps)
pairs_asked_below m position w [] k = tt
pairs_asked_below m position w (p ∷ ps) k = (positive_below w m (omega arith), pairs_asked_below m position (w + 1) ps (omega arith))

none_clauses_below : (m w l : ℕ) (us : List Usage) → UsagesBelow m us → l < 2 * m → w + length us ≤ m → AreBelow (2 * m) (none_clauses w l us)
none_clauses_below m w l [] h k room = tt
none_clauses_below m w l (u ∷ us) h k room =
    all-append _ (both_clauses w l (complement u.literal)) _ (both_below m w l (complement u.literal) (omega arith) k (complement_below u.literal m h.0))
    (none_clauses_below m (w + 1) (literal w true) us h.1 (positive_below w m (omega arith)) (omega arith))

none_literal_below : (m w l : ℕ) (us : List Usage) → l < 2 * m → w + length us ≤ m → none_literal w l us < 2 * m
none_literal_below m w l [] k room = k
none_literal_below m w l (u ∷ us) k room = none_literal_below m (w + 1) (literal w true) us (positive_below w m (omega arith)) (omega arith)

uncovered_below : (m w : ℕ) (us : List Usage) → UsagesBelow m us → w + (length us - 1) ≤ m → AreBelow (2 * m) (uncovered_clauses w us)
uncovered_below m w [] h room = tt
uncovered_below m w (u ∷ us) h room = none_clauses_below m w (complement u.literal) us h.1 (complement_below u.literal m h.0) (omega arith)

uncovered_literal_below : (n m w : ℕ) (us : List Usage) → n < m → UsagesBelow m us → w + (length us - 1) ≤ m → uncovered_literal n w us < 2 * m
uncovered_literal_below n m w [] below h room = positive_below n m below
uncovered_literal_below n m w (u ∷ us) below h room = none_literal_below m w (complement u.literal) us (complement_below u.literal m h.0) (omega arith)

choice_clauses_below : (m w : ℕ) (mandatory : Bool) (us : List Usage) → UsagesBelow m us → w + choice_variables mandatory us ≤ m → AreBelow (2 * m) (choice_clauses w mandatory us)
choice_clauses_below m w true us h room =
    all-append _ (pair_clauses w (pairs us)) _ (pair_clauses_below m w (pairs us) (all_pairs (λ u. u.literal < 2 * m) us h) (omega arith))
    (uncovered_below m (w + length (pairs us)) us h (omega arith))
choice_clauses_below m w false us h room =
    all-append _ (pair_clauses w (pairs us)) _ (pair_clauses_below m w (pairs us) (all_pairs (λ u. u.literal < 2 * m) us h) (omega arith)) tt

uncovered_asked_below : (n m w position : ℕ) (mandatory : Bool) (us : List Usage) → n < m → UsagesBelow m us → w + choice_variables mandatory us ≤ m → GoalsBelow m (uncovered_asked n (w + length (pairs us)) position mandatory us)
uncovered_asked_below n m w position true us below h room = (uncovered_literal_below n m (w + length (pairs us)) us below h (omega arith), tt)
uncovered_asked_below n m w position false us below h room = tt

pairs_room : (m w : ℕ) (mandatory : Bool) (us : List Usage) → w + choice_variables mandatory us ≤ m → w + length (pairs us) ≤ m
pairs_room m w true us room = omega arith
pairs_room m w false us room = omega arith

choice_asked_below : (n m w position : ℕ) (mandatory : Bool) (us : List Usage) → n < m → UsagesBelow m us → w + choice_variables mandatory us ≤ m → GoalsBelow m (choice_asked n w position mandatory us)
choice_asked_below n m w position mandatory us below h room =
    all-append _ (map superfluous_asked us ++ pairs_asked position w (pairs us)) _
    (all-append _ (map superfluous_asked us) _ (all-map (λ q. q.goal < 2 * m) superfluous_asked us h) (pairs_asked_below m position w (pairs us) (pairs_room m w mandatory us room)))
    (uncovered_asked_below n m w position mandatory us below h room)

-- the goals of numbered choices
module _ (b : Contents) (fit : UsagesFit b) (m : ℕ) where
  goals_clauses_below : (v w : ℕ) (cs : List Choice) → length b.codes < v → v + variables_of (usage_items b cs) ≤ m
      → w + goals_variables (numbered_from b (length b.codes) v w cs) ≤ m → AreBelow (2 * m) (goals_clauses (numbered_from b (length b.codes) v w cs))
  goals_clauses_below v w [] h k room = tt
  goals_clauses_below v w (c ∷ cs) h k room =
      let us : List Usage = usages_from b (length b.codes) v c.variants in
      let split = variables_of-append (map (usage_item b) c.variants) (usage_items b cs) in
      all-append _ (choice_clauses w c.mandatory us) _
      (choice_clauses_below m w c.mandatory us (usages_below b fit v m c.variants h (omega arith)) (omega arith))
      (goals_clauses_below (v + variables_of (map (usage_item b) c.variants)) (w + choice_variables c.mandatory us) cs (omega arith) (omega arith) (omega arith))

  goals_asked_below : (v w : ℕ) (cs : List Choice) → length b.codes < v → v + variables_of (usage_items b cs) ≤ m
      → w + goals_variables (numbered_from b (length b.codes) v w cs) ≤ m → GoalsBelow m (goals_asked (length b.codes) (numbered_from b (length b.codes) v w cs))
  goals_asked_below v w [] h k room = tt
  goals_asked_below v w (c ∷ cs) h k room =
      let us : List Usage = usages_from b (length b.codes) v c.variants in
      let split = variables_of-append (map (usage_item b) c.variants) (usage_items b cs) in
      all-append _ (choice_asked (length b.codes) w c.position c.mandatory us) _
      (choice_asked_below (length b.codes) m w c.position c.mandatory us (omega arith) (usages_below b fit v m c.variants h (omega arith)) (omega arith))
      (goals_asked_below (v + variables_of (map (usage_item b) c.variants)) (w + choice_variables c.mandatory us) cs (omega arith) (omega arith) (omega arith))

codes_asked_below : (m i : ℕ) (names : List (List ℕ)) → i + length names < m → GoalsBelow m (codes_asked_from i names)
codes_asked_below m i [] h = tt
codes_asked_below m i (name ∷ names) h =
    (negative_below i m (omega arith), (positive_below i m (omega arith), codes_asked_below m (suc i) names (omega arith)))

-- what the questions name
pub codes_fit : (b : Contents) (i : ℕ) (names : List (List ℕ)) → i + length names ≤ length b.codes → AllByRecursion (QuestionFits b) (code_questions_from i names)
codes_fit b i [] h = tt
codes_fit b i (name ∷ names) h =
    let here : i < length b.codes = omega arith in (here, (here, codes_fit b (suc i) names (omega arith)))

uncovered_fits : (b : Contents) (mandatory : Bool) (position : ℕ) → position < length b.positions → AllByRecursion (QuestionFits b) (uncovered_question mandatory position)
uncovered_fits b true position h = (h, tt)
uncovered_fits b false position h = tt

pairs_fit : (b : Contents) (position : ℕ) (ps : List (ℕ × ℕ)) → position < length b.positions
    → AllByRecursion (λ p. (p.0 < length b.variants) × (p.1 < length b.variants)) ps
    → AllByRecursion (QuestionFits b) (map (λ p. Ambiguous position p.0 p.1) ps)
pairs_fit b position [] h k = tt
pairs_fit b position (p ∷ ps) h k = ((h, k.0.0, k.0.1), pairs_fit b position ps h k.1)

choice_fits : (b : Contents) (c : Choice) → c.position < length b.positions → AllByRecursion (λ v. v < length b.variants) c.variants → AllByRecursion (QuestionFits b) (choice_questions c)
choice_fits b c h k =
    let ambiguous : ℕ × ℕ → Question = λ p. Ambiguous c.position p.0 p.1 in
    all-append _ (map Superfluous c.variants ++ map ambiguous (pairs c.variants)) _
    (all-append _ (map Superfluous c.variants) _ (all-map (QuestionFits b) Superfluous c.variants k)
    (pairs_fit b c.position (pairs c.variants) h (all_pairs (λ v. v < length b.variants) c.variants k)))
    (uncovered_fits b c.mandatory c.position h)

-- the places of a position's variants, of which the first of the list has the place i
variants_below : (m i place : ℕ) (vs : List Variant) → i + length vs ≤ m → AllByRecursion (λ v. v < m) (variants_from i place vs)
variants_below m i place [] h = tt
variants_below m i place (v ∷ vs) h =
    let later = variants_below m (suc i) place vs (omega arith) in
    elim (cases_Bool (eqb v.position place)) [
      | inl e ↦ subst (λ (ks : List ℕ). AllByRecursion (λ k. k < m) ks) (sym (cond-true (eqb v.position place) (i ∷ variants_from (suc i) place vs) (variants_from (suc i) place vs) e)) (omega arith, later)
      | inr e ↦ subst (λ (ks : List ℕ). AllByRecursion (λ k. k < m) ks) (sym (cond-false (eqb v.position place) (i ∷ variants_from (suc i) place vs) (variants_from (suc i) place vs) e)) later
    ]

pub choices_fit : (b : Contents) (day i : ℕ) (ps : List Position) → i + length ps ≤ length b.positions → AllByRecursion (QuestionFits b) (flat_map choice_questions (choices_from i b day ps))
choices_fit b day i [] h = tt
choices_fit b day i (p ∷ ps) h =
    let own : Choice = record { position = i; mandatory = p.mandatory; variants = active_variants b day i } in
    let later = choices_fit b day (suc i) ps (omega arith) in
    elim (cases_Bool (is_active_position day p)) [
      | inl e ↦
          subst (λ (cs : List Choice). AllByRecursion (QuestionFits b) (flat_map choice_questions cs)) (sym (cond-true (is_active_position day p) (own ∷ choices_from (suc i) b day ps) (choices_from (suc i) b day ps) e))
          (all-append _ (choice_questions own) _
          (choice_fits b own (omega arith) (all_filtered (λ v. v < length b.variants) (is_active_variant b day) (variants_of i b.variants) (variants_below (length b.variants) 0 i b.variants (omega arith))))
          later)
      | inr e ↦
          subst (λ (cs : List Choice). AllByRecursion (QuestionFits b) (flat_map choice_questions cs)) (sym (cond-false (is_active_position day p) (own ∷ choices_from (suc i) b day ps) (choices_from (suc i) b day ps) e)) later
    ]

abbrev later_asked : Contents → ℕ → List Asked
later_asked b day = codes_asked_from 0 b.codes ++ goals_asked (length b.codes) (numbered_choices b day)

later_fit : (b : Contents) (day : ℕ) → AllByRecursion (λ q. QuestionFits b q.question) (later_asked b day)
later_fit b day =
    all_mapped (QuestionFits b) (λ (q : Asked). q.question) (later_asked b day)
    (subst (λ (qs : List Question). AllByRecursion (QuestionFits b) qs) (sym (ap (λ (qs : List Question). drop 1 qs) (asked_in_order b day)))
    (all-append _ (code_questions_from 0 b.codes) _ (codes_fit b 0 b.codes (omega arith)) (choices_fit b day 0 b.positions (omega arith))))

-- all of it, where the slice has this many variables
record IsBounded (b : Contents) (day m : ℕ) : Type 0 where
  codes : length b.codes < m
  clauses : AreBelow (2 * m) (slice_clauses b day)
  goals : GoalsBelow m (slice_asked b day)

slice_bounded : (b : Contents) (day : ℕ) → IsBook b → IsBounded b day (slice_variables b day)
slice_bounded b day book =
    let n : ℕ = length b.codes in
    let m : ℕ = slice_variables b day in
    let usages = usages_fit b book.variants_fit in
    let fits = all-append _ (rule_items b day) (usage_items b (choices b day)) (rule_items_fit b day book.supplements_fit book.constructs_fit) (all_usage_items_fit b usages (choices b day)) in
    let split = variables_of-append (rule_items b day) (usage_items b (choices b day)) in
    let above : n < usages_start b day = omega arith in
    let room : usages_start b day + variables_of (usage_items b (choices b day)) ≤ m = omega (arith, split) in
    let few : n < m = omega (arith, split) in
    record {
      codes = few;
      clauses = (
        IsBelow-clause_of (2 * m) (literal n true ∷ []) (positive_below n m few, tt),
        all-append _ (item_clauses n (n + 1) (items b day)) _ (items_below n n (n + 1) m (items b day) fits (omega arith) (omega arith) (omega arith))
            (goals_clauses_below b usages m (usages_start b day) (goals_start b day) (choices b day) above room (omega arith)),
      );
      goals = (
        positive_below n m few,
        all-append _ (codes_asked_from 0 b.codes) _ (codes_asked_below m 0 b.codes (omega (arith, few)))
            (goals_asked_below b usages m (usages_start b day) (goals_start b day) (choices b day) above room (omega arith)),
      );
    }

pub slice_in_range : (b : Contents) (day : ℕ) (c : Coded) → IsBook b → IsCoded b day c → IsInRange b c
slice_in_range b day c book coded =
    let bounded : IsBounded b day c.vars = subst (IsBounded b day) (sym coded.variables) (slice_bounded b day book) in
    record {
      codes_below = bounded.codes;
      literals_below = subst (AreBelow (2 * c.vars)) (sym coded.clauses) bounded.clauses;
      goals_below = subst (GoalsBelow c.vars) (sym coded.asked) bounded.goals;
      void_first = ap (λ (qs : List Asked). slice_get qs 0) coded.asked;
      later_fit = subst (λ (qs : List Asked). AllByRecursion (λ q. QuestionFits b q.question) (drop 1 qs)) (sym coded.asked) (later_fit b day);
    }
