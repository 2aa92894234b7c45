-- The clauses of the formulas of a slice hold just where the variables are the truth of what they stand for and each claim is
-- met, and all claims are met just by the good sets.
use Rattle.std.proofs.Common.{inl, inr, append_assoc, ◌≡◌, ℕ, ◌+◌, ◌<◌, ◌≤◌, Bool, true, false, not, ◌&&◌, ◌||◌, ◌==◌, eqb, ltb, nat_le, List, [], ◌∷◌, ◌++◌, Option, None, Some, length, map, refl, sym, ap, subst, ◌∙◌, arith, length-append}
use Rattle.std.specs.List.{list_any, list_all, filter, All, AllByRecursion}
use Rattle.std.specs.Option.{IfSome}
use Rattle.std.proofs.lemmas.List.Elements.{recursion_from_All}
use Rattle.std.proofs.lemmas.Bool.{and_parts, and_from, and_left, and_right, or_from, or_parts, cases_Bool, cond-true, cond-false, ltb-true, lt-ltb, eq-eqb, eqb-true, not_from_false, not-true}
use Rattle.pb_base.specs.Rule.{Rule, holds, codes_below}
use Rattle.pb_base.specs.Sets.{has}
use Rattle.pb_base.specs.declared.limits.TheConstants.{MOST_GROUP_CODES}
use Rattle.book_model.specs.Activity.{is_within}
use Rattle.book_model.specs.Contents.{Contents}
use Rattle.book_model.specs.Good.{fires, breaks, is_met, present, is_constructible, is_good}
use Rattle.book_model.specs.Book.{SupplementFits, ConstructFits, DemandFits}
use Rattle.book_model.specs.declared.demand.Demand.{Demand}
use Rattle.book_model.specs.declared.demand.Demand.TheVariants as demand
use Rattle.book_model.specs.declared.record.Supplement.{Supplement}
use Rattle.book_model.specs.declared.record.Construct.{Construct}
use Rattle.clause_pool.specs.Literal.{literal, complement, is_true}
use Rattle.clause_pool.specs.Clause.{Sat}
use Rattle.clause_pool.proofs.LiteralLaws.{is_true-complement}
use Rattle.clausify.specs.Formulas.{connectives, formula_literal, literals_from, formula_clauses}
use Rattle.clausify.specs.Items.{Claim, adds, needed_by, needed, one_of, most_of, free, Item, claim_clauses, variables_of, item_clauses, free_item, claim_on, group_size, supplement_item, demand_item, construct_item, supplement_items, construct_items, rule_items}
use Rattle.clausify.proofs.GroupLaws.{all_below, below_all, sat_from_one, one_from_sat, sat_from_few, few_from_sat}
use Rattle.clausify.proofs.ListLaws.{all-append, all_first, all_last}
use Rattle.clausify.proofs.Truth.{true_positive, true_negative, one_true, two_true}
use Rattle.clausify.proofs.FormulaLaws.{named_in, Names, Begins, length-named_in, names-append, names_first, names_last, denotes, sat_from_names, names_from_sat}

-- the claim is met where the formula has this truth
abbrev pub meets_claim : List Bool → Claim → Bool → Bool
meets_claim x (adds code) t = not t || has x code
meets_claim x (needed_by code) t = not (has x code) || t
meets_claim x needed t = t
meets_claim x (one_of group) t = present x group == 1
meets_claim x (most_of group) t = nat_le (present x group) 1
meets_claim x free t = true

abbrev pub meets : List Bool → Item → Bool
meets x i = meets_claim x i.claim (holds i.rule x)

abbrev pub claim_fits : ℕ → Claim → Bool
claim_fits n (adds code) = ltb code n
claim_fits n (needed_by code) = ltb code n
claim_fits n needed = true
claim_fits n (one_of group) = list_all (λ code. ltb code n) group
claim_fits n (most_of group) = list_all (λ code. ltb code n) group
claim_fits n free = true

abbrev pub item_fits : ℕ → Item → Bool
item_fits n i = codes_below n i.rule && claim_fits n i.claim

pub or_nothing : (p : Bool) → (p || false) ≡ p
or_nothing true = refl
or_nothing false = refl

or_rest : (p q : Bool) → (p || (q || false)) ≡ (p || q)
or_rest p q = ap (λ (b : Bool). p || b) (or_nothing q)

-- the clauses of a claim hold just where the claim is met
pub sat_from_claim : {m : ℕ} (n : ℕ) (x : List Bool) (a : ℕ → Bool) → Begins m n x a → (d : Claim) (l : ℕ) (t : Bool) → claim_fits m d ≡ true → is_true a l ≡ t → meets_claim x d t ≡ true → Sat (claim_clauses d l) a
sat_from_claim {m} n x a b (adds code) l t fit h met =
    (two_true a (complement l) (literal code true) (not t) (has x code) (is_true-complement a l ∙ ap not h) (true_positive a code ∙ b.codes code (ltb-true code m fit)) ∙ or_rest (not t) (has x code) ∙ met, tt)
sat_from_claim {m} n x a b (needed_by code) l t fit h met =
    (two_true a (literal code false) l (not (has x code)) t (true_negative a code ∙ ap not (b.codes code (ltb-true code m fit))) h ∙ or_rest (not (has x code)) t ∙ met, tt)
sat_from_claim {m} n x a b needed l t fit h met = (one_true a l ∙ or_nothing (is_true a l) ∙ h ∙ met, tt)
sat_from_claim {m} n x a b (one_of group) l t fit h met = sat_from_one n x a b group (below_all m group fit) met
sat_from_claim {m} n x a b (most_of group) l t fit h met = sat_from_few n x a b group (below_all m group fit) met
sat_from_claim {m} n x a b free l t fit h met = tt

pub claim_from_sat : {m : ℕ} (n : ℕ) (x : List Bool) (a : ℕ → Bool) → Begins m n x a → (d : Claim) (l : ℕ) (t : Bool) → claim_fits m d ≡ true → is_true a l ≡ t → Sat (claim_clauses d l) a → meets_claim x d t ≡ true
claim_from_sat {m} n x a b (adds code) l t fit h s =
    sym (two_true a (complement l) (literal code true) (not t) (has x code) (is_true-complement a l ∙ ap not h) (true_positive a code ∙ b.codes code (ltb-true code m fit)) ∙ or_rest (not t) (has x code)) ∙ s.0
claim_from_sat {m} n x a b (needed_by code) l t fit h s =
    sym (two_true a (literal code false) l (not (has x code)) t (true_negative a code ∙ ap not (b.codes code (ltb-true code m fit))) h ∙ or_rest (not (has x code)) t) ∙ s.0
claim_from_sat {m} n x a b needed l t fit h s = sym (one_true a l ∙ or_nothing (is_true a l) ∙ h) ∙ s.0
claim_from_sat {m} n x a b (one_of group) l t fit h s = one_from_sat n x a b group (below_all m group fit) s
claim_from_sat {m} n x a b (most_of group) l t fit h s = few_from_sat n x a b group (below_all m group fit) s
claim_from_sat {m} n x a b free l t fit h s = refl

-- what the variables of the items stand for
abbrev pub items_named : List Item → List Rule
items_named [] = []
items_named (i ∷ is) = named_in i.rule ++ items_named is

abbrev pub AllFit : ℕ → List Item → Type 0
AllFit n is = AllByRecursion (λ i. item_fits n i ≡ true) is

abbrev pub AllMeet : List Bool → List Item → Type 0
AllMeet x is = AllByRecursion (λ i. meets x i ≡ true) is

pub length-items_named : (is : List Item) → length (items_named is) ≡ variables_of is
length-items_named [] = refl
length-items_named (i ∷ is) = length-append (named_in i.rule) (items_named is) ∙ omega (arith, length-named_in i.rule, length-items_named is)

pub items_named-append : (is js : List Item) → items_named (is ++ js) ≡ items_named is ++ items_named js
items_named-append [] js = refl
items_named-append (i ∷ is) js = ap (λ (fs : List Rule). named_in i.rule ++ fs) (items_named-append is js) ∙ sym (append_assoc (named_in i.rule) (items_named is) (items_named js))

pub variables_of-append : (is js : List Item) → variables_of (is ++ js) ≡ variables_of is + variables_of js
variables_of-append [] js = omega arith
variables_of-append (i ∷ is) js = omega (arith, variables_of-append is js)

pub item_clauses-append : (n v : ℕ) (is js : List Item) → item_clauses n v (is ++ js) ≡ item_clauses n v is ++ item_clauses n (v + variables_of is) js
item_clauses-append n v [] js = ap (λ (w : ℕ). item_clauses n w js) (let e : v ≡ v + 0 = omega arith in e)
item_clauses-append n v (i ∷ is) js =
    ap (λ (cs : List (List ℕ)). formula_clauses n v i.rule ++ claim_clauses i.claim (formula_literal n v i.rule) ++ cs) (item_clauses-append n (v + connectives i.rule) is js)
    ∙ sym (append_assoc (formula_clauses n v i.rule ++ claim_clauses i.claim (formula_literal n v i.rule)) (item_clauses n (v + connectives i.rule) is) _)
    ∙ ap (λ (w : ℕ). item_clauses n v (i ∷ is) ++ item_clauses n w js) (let e : v + connectives i.rule + variables_of is ≡ v + variables_of (i ∷ is) = omega arith in e)

first_names : (a : ℕ → Bool) (x : List Bool) (v : ℕ) (i : Item) (is : List Item) → Names a x v (items_named (i ∷ is)) → Names a x v (named_in i.rule)
first_names a x v i is h = names_first a x v (named_in i.rule) (items_named is) h

later_names : (a : ℕ → Bool) (x : List Bool) (v : ℕ) (i : Item) (is : List Item) → Names a x v (items_named (i ∷ is)) → Names a x (v + connectives i.rule) (items_named is)
later_names a x v i is h = subst (λ (k : ℕ). Names a x (v + k) (items_named is)) (length-named_in i.rule) (names_last a x v (named_in i.rule) (items_named is) h)

pub sat_from_items : {m : ℕ} (n : ℕ) (x : List Bool) (a : ℕ → Bool) → Begins m n x a → (v : ℕ) (is : List Item) → AllFit m is → Names a x v (items_named is) → AllMeet x is → Sat (item_clauses n v is) a
sat_from_items {m} n x a b v [] fit names met = tt
sat_from_items {m} n x a b v (i ∷ is) fit names met =
    let fits = and_parts (codes_below m i.rule) (claim_fits m i.claim) fit.0 in
    let here = first_names a x v i is names in
    all-append _ (formula_clauses n v i.rule ++ claim_clauses i.claim (formula_literal n v i.rule)) _
    (all-append _ (formula_clauses n v i.rule) _ (sat_from_names n x a b v i.rule fits.0 here)
    (sat_from_claim n x a b i.claim (formula_literal n v i.rule) (holds i.rule x) fits.1 (denotes n x a b v i.rule fits.0 here) met.0))
    (sat_from_items n x a b (v + connectives i.rule) is fit.1 (later_names a x v i is names) met.1)

pub names_from_items : {m : ℕ} (n : ℕ) (x : List Bool) (a : ℕ → Bool) → Begins m n x a → (v : ℕ) (is : List Item) → AllFit m is → Sat (item_clauses n v is) a → Names a x v (items_named is)
names_from_items {m} n x a b v [] fit h = tt
names_from_items {m} n x a b v (i ∷ is) fit h =
    let fits = and_parts (codes_below m i.rule) (claim_fits m i.claim) fit.0 in
    let own = all_first _ (formula_clauses n v i.rule ++ claim_clauses i.claim (formula_literal n v i.rule)) _ h in
    let rest = all_last _ (formula_clauses n v i.rule ++ claim_clauses i.claim (formula_literal n v i.rule)) _ h in
    names-append a x v (named_in i.rule) (items_named is)
    (names_from_sat n x a b v i.rule fits.0 (all_first _ (formula_clauses n v i.rule) _ own))
    (subst (λ (k : ℕ). Names a x (v + k) (items_named is)) (sym (length-named_in i.rule)) (names_from_items n x a b (v + connectives i.rule) is fit.1 rest))

pub meets_from_items : {m : ℕ} (n : ℕ) (x : List Bool) (a : ℕ → Bool) → Begins m n x a → (v : ℕ) (is : List Item) → AllFit m is → Sat (item_clauses n v is) a → AllMeet x is
meets_from_items {m} n x a b v [] fit h = tt
meets_from_items {m} n x a b v (i ∷ is) fit h =
    let fits = and_parts (codes_below m i.rule) (claim_fits m i.claim) fit.0 in
    let own = all_first _ (formula_clauses n v i.rule ++ claim_clauses i.claim (formula_literal n v i.rule)) _ h in
    let rest = all_last _ (formula_clauses n v i.rule ++ claim_clauses i.claim (formula_literal n v i.rule)) _ h in
    let names = names_from_sat n x a b v i.rule fits.0 (all_first _ (formula_clauses n v i.rule) _ own) in (
      claim_from_sat n x a b i.claim (formula_literal n v i.rule) (holds i.rule x) fits.1 (denotes n x a b v i.rule fits.0 names) (all_last _ (formula_clauses n v i.rule) _ own),
      meets_from_items n x a b (v + connectives i.rule) is fit.1 rest,
    )

-- Formulas of which nothing is claimed: they fit where their codes do, every set meets them, and the literals are their truth.
abbrev pub AllBelow : ℕ → List Rule → Type 0
AllBelow n fs = AllByRecursion (λ f. codes_below n f ≡ true) fs

pub free_items_fit : (n : ℕ) (fs : List Rule) → AllBelow n fs → AllFit n (map free_item fs)
free_items_fit n [] below = tt
free_items_fit n (f ∷ fs) below = (and_from _ _ below.0 refl, free_items_fit n fs below.1)

pub free_items_met : (x : List Bool) (fs : List Rule) → AllMeet x (map free_item fs)
free_items_met x [] = tt
free_items_met x (f ∷ fs) = (refl, free_items_met x fs)

pub literals_true : {m : ℕ} (n : ℕ) (x : List Bool) (a : ℕ → Bool) → Begins m n x a → (v : ℕ) (fs : List Rule) → AllBelow m fs → Names a x v (items_named (map free_item fs))
    → map (is_true a) (literals_from n v fs) ≡ map (λ f. holds f x) fs
literals_true {m} n x a b v [] below names = refl
literals_true {m} n x a b v (f ∷ fs) below names =
    ap (λ (t : Bool). t ∷ map (is_true a) (literals_from n (v + connectives f) fs)) (denotes n x a b v f below.0 (first_names a x v (free_item f) (map free_item fs) names))
    ∙ ap (λ (ts : List Bool). holds f x ∷ ts) (literals_true n x a b (v + connectives f) fs below.1 (later_names a x v (free_item f) (map free_item fs) names))

unmet_where_fired : (w p q : Bool) → (w && p && not q) ≡ (w && not (not p || q))
unmet_where_fired true true q = refl
unmet_where_fired true false q = refl
unmet_where_fired false p q = refl

met_where_active : (w m : Bool) → w ≡ true → (w && not m) ≡ false → m ≡ true
met_where_active w true e h = refl
met_where_active w false e h = sym h ∙ ap (λ (b : Bool). b && true) e

-- active records of one kind, of which each is against the set where its claim is not met: none is just where all claims are
module _ {X : Type 0} where
  pub none_from_meets : (x : List Bool) (w against : X → Bool) (f : X → Item) → ((s : X) → against s ≡ (w s && not (meets x (f s)))) → (ss : List X) → AllMeet x (map f (filter w ss)) → list_any against ss ≡ false
  none_from_meets x w against f same [] h = refl
  none_from_meets x w against f same (s ∷ ss) h =
      elim (cases_Bool (w s)) [
        | inl e ↦
            let both = subst (λ (k : List X). AllMeet x (map f k)) (cond-true (w s) (s ∷ filter w ss) (filter w ss) e) h in
            or_from _ _ (same s ∙ and_right (w s) _ (ap not both.0)) (none_from_meets x w against f same ss both.1)
        | inr e ↦
            let rest = subst (λ (k : List X). AllMeet x (map f k)) (cond-false (w s) (s ∷ filter w ss) (filter w ss) e) h in
            or_from _ _ (same s ∙ and_left (w s) _ e) (none_from_meets x w against f same ss rest)
      ]

  pub meets_from_none : (x : List Bool) (w against : X → Bool) (f : X → Item) → ((s : X) → against s ≡ (w s && not (meets x (f s)))) → (ss : List X) → list_any against ss ≡ false → AllMeet x (map f (filter w ss))
  meets_from_none x w against f same [] h = tt
  meets_from_none x w against f same (s ∷ ss) h =
      let parts = or_parts (against s) (list_any against ss) h in
      elim (cases_Bool (w s)) [
        | inl e ↦
            subst (λ (k : List X). AllMeet x (map f k)) (sym (cond-true (w s) (s ∷ filter w ss) (filter w ss) e))
            (met_where_active (w s) (meets x (f s)) e (sym (same s) ∙ parts.0), meets_from_none x w against f same ss parts.1)
        | inr e ↦
            subst (λ (k : List X). AllMeet x (map f k)) (sym (cond-false (w s) (s ∷ filter w ss) (filter w ss) e))
            (meets_from_none x w against f same ss parts.1)
      ]

  -- what holds of all records holds of the items of the active ones
  pub fit_filtered : (n : ℕ) (w : X → Bool) (Fits : X → Type 0) (f : X → Item) → ((s : X) → Fits s → item_fits n (f s) ≡ true) → (ss : List X) → AllByRecursion Fits ss → AllFit n (map f (filter w ss))
  fit_filtered n w Fits f gives [] h = tt
  fit_filtered n w Fits f gives (s ∷ ss) h =
      elim (cases_Bool (w s)) [
        | inl e ↦
            subst (λ (k : List X). AllFit n (map f k)) (sym (cond-true (w s) (s ∷ filter w ss) (filter w ss) e))
            (gives s h.0, fit_filtered n w Fits f gives ss h.1)
        | inr e ↦
            subst (λ (k : List X). AllFit n (map f k)) (sym (cond-false (w s) (s ∷ filter w ss) (filter w ss) e))
            (fit_filtered n w Fits f gives ss h.1)
      ]

meets-demand : (x : List Bool) (d : Demand) → meets x (demand_item d) ≡ is_met x d
meets-demand x (demand.Rule None rule) = refl
meets-demand x (demand.Rule (Some code) rule) = refl
meets-demand x (demand.One group) = refl
meets-demand x (demand.Most group) = refl

-- a rule fires, and a constructibility rule is broken, where its claim is not met
unmet-fires : (day : ℕ) (x : List Bool) (s : Supplement) → fires day x s ≡ (is_within s.from s.until day && not (meets x (supplement_item s)))
unmet-fires day x s = unmet_where_fired (is_within s.from s.until day) (holds s.rule x) (has x s.code)

pub unmet-breaks : (day : ℕ) (x : List Bool) (c : Construct) → breaks day x c ≡ (is_within c.from c.until day && not (meets x (construct_item c)))
unmet-breaks day x c = ap (λ (t : Bool). is_within c.from c.until day && not t) (sym (meets-demand x c.demand))

-- the claims of the constructibility rules are met just by the constructible sets
pub constructible_from_meets : (b : Contents) (day : ℕ) (x : List Bool) → AllMeet x (construct_items b day) → is_constructible b day x ≡ true
constructible_from_meets b day x h =
    not_from_false _ (none_from_meets x (λ (c : Construct). is_within c.from c.until day) (breaks day x) construct_item (unmet-breaks day x) b.constructs h)

pub meets_from_constructible : (b : Contents) (day : ℕ) (x : List Bool) → is_constructible b day x ≡ true → AllMeet x (construct_items b day)
meets_from_constructible b day x h =
    meets_from_none x (λ (c : Construct). is_within c.from c.until day) (breaks day x) construct_item (unmet-breaks day x) b.constructs (not-true _ h)

-- all claims are met just by the good sets
pub good_from_meets : (b : Contents) (day : ℕ) (x : List Bool) → length x ≡ length b.codes → AllMeet x (rule_items b day) → is_good b day x ≡ true
good_from_meets b day x len h =
    let first = all_first _ (supplement_items b day) (construct_items b day) h in
    and_from _ _
    (and_from _ _
    (not_from_false _ (none_from_meets x (λ (s : Supplement). is_within s.from s.until day) (fires day x) supplement_item (unmet-fires day x) b.supplements first))
    (constructible_from_meets b day x (all_last _ (supplement_items b day) (construct_items b day) h)))
    (eq-eqb _ _ len)

pub meets_from_good : (b : Contents) (day : ℕ) (x : List Bool) → is_good b day x ≡ true → AllMeet x (rule_items b day)
meets_from_good b day x h =
    let rules = and_parts _ (eqb (length x) (length b.codes)) h in
    let kinds = and_parts _ (is_constructible b day x) rules.0 in
    all-append _ (supplement_items b day) (construct_items b day)
    (meets_from_none x (λ (s : Supplement). is_within s.from s.until day) (fires day x) supplement_item (unmet-fires day x) b.supplements (not-true _ kinds.0))
    (meets_from_constructible b day x kinds.1)

pub length_from_good : (b : Contents) (day : ℕ) (x : List Bool) → is_good b day x ≡ true → length x ≡ length b.codes
length_from_good b day x h = eqb-true _ _ (and_parts _ (eqb (length x) (length b.codes)) h).1

pub supplement_item_fits : (n : ℕ) (s : Supplement) → SupplementFits n s → item_fits n (supplement_item s) ≡ true
supplement_item_fits n s h = and_from _ _ (h.rule.in_range) (lt-ltb s.code n h.code)

claim_on_fits : (n : ℕ) (o : Option ℕ) → IfSome o (λ code. code < n) → claim_fits n (claim_on o) ≡ true
claim_on_fits n None h = refl
claim_on_fits n (Some code) h = lt-ltb code n h

group_fits : (n : ℕ) (group : List ℕ) → All (λ (code : ℕ). code < n) group → list_all (λ code. ltb code n) group ≡ true
group_fits n group h = all_below n group (recursion_from_All (λ (code : ℕ). code < n) group h)

pub demand_item_fits : (n : ℕ) (d : Demand) → DemandFits n d → item_fits n (demand_item d) ≡ true
demand_item_fits n (demand.Rule on rule) h = and_from _ _ (h.rule.in_range) (claim_on_fits n on h.on)
demand_item_fits n (demand.One group) h = group_fits n group h.in_range
demand_item_fits n (demand.Most group) h = group_fits n group h.in_range

pub construct_item_fits : (n : ℕ) (c : Construct) → ConstructFits n c → item_fits n (construct_item c) ≡ true
construct_item_fits n c h = demand_item_fits n c.demand h.demand

pub supplement_items_fit : (b : Contents) (day : ℕ) → All (SupplementFits (length b.codes)) b.supplements → AllFit (length b.codes) (supplement_items b day)
supplement_items_fit b day hs =
    fit_filtered (length b.codes) (λ (s : Supplement). is_within s.from s.until day) (SupplementFits (length b.codes)) supplement_item (supplement_item_fits (length b.codes)) b.supplements
    (recursion_from_All (SupplementFits (length b.codes)) b.supplements hs)

pub construct_items_fit : (b : Contents) (day : ℕ) → All (ConstructFits (length b.codes)) b.constructs → AllFit (length b.codes) (construct_items b day)
construct_items_fit b day hc =
    fit_filtered (length b.codes) (λ (c : Construct). is_within c.from c.until day) (ConstructFits (length b.codes)) construct_item (construct_item_fits (length b.codes)) b.constructs
    (recursion_from_All (ConstructFits (length b.codes)) b.constructs hc)

pub rule_items_fit : (b : Contents) (day : ℕ) → All (SupplementFits (length b.codes)) b.supplements → All (ConstructFits (length b.codes)) b.constructs → AllFit (length b.codes) (rule_items b day)
rule_items_fit b day hs hc = all-append _ (supplement_items b day) (construct_items b day) (supplement_items_fit b day hs) (construct_items_fit b day hc)

pub variables_more : (is js : List Item) → variables_of (is ++ js) ≡ variables_of is + variables_of js
variables_more is js = variables_of-append is js

-- a demand of a book has no more codes than its limit
pub group_small : (n : ℕ) (d : Demand) → DemandFits n d → group_size d ≤ MOST_GROUP_CODES
group_small n (demand.Rule on rule) h = omega arith
group_small n (demand.One group) h = h.most
group_small n (demand.Most group) h = h.most
