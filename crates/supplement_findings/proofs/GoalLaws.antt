-- The clauses of questions: a constructible set that shows what one of them asks for begins an assignment that satisfies the
-- clauses with the variable of its goal true, and what satisfies them so begins with such a set.
use Rattle.std.proofs.Common.{inl, inr, ◌≡◌, ℕ, zero, suc, ◌+◌, ◌<◌, Bool, true, false, not, ◌&&◌, ◌||◌, eqb, List, [], ◌∷◌, ◌++◌, Some, length, map, drop, get_or, refl, sym, ap, subst, ◌∙◌, arith}
use Rattle.std.specs.List.{list_any, list_all, slice_get, AllByRecursion, AllZip}
use Rattle.std.proofs.lemmas.Bool.{and_parts, and_from, or_left, not-true, cases_Bool, cond-true, cond-false, eqb-true, false≢true}
use Rattle.std.proofs.lemmas.Option.{none-some, same_Some}
use Rattle.std.proofs.lemmas.List.{map-append}
use Rattle.std.proofs.Math.Bool.{or-false}
use Rattle.pb_base.specs.Leaves.{with_present}
use Rattle.pb_base.specs.Rule.{Rule, both, always, never, holds}
use Rattle.pb_base.specs.Sets.{has}
use Rattle.pb_base.proofs.LeafLaws.{holds-with_present}
use Rattle.book_model.specs.Activity.{is_within}
use Rattle.book_model.specs.Book.{IsBook}
use Rattle.book_model.specs.Contents.{Contents}
use Rattle.book_model.specs.Good.{breaks, fires, is_constructible}
use Rattle.book_model.specs.declared.record.Construct.{Construct}
use Rattle.book_model.specs.declared.record.Supplement.{Supplement}
use Rattle.clause_pool.specs.Literal.{literal, complement, is_true}
use Rattle.clause_pool.specs.Clause.{clause_of, clause_true, Sat}
use Rattle.clause_pool.proofs.ClauseLaws.{clause_true-clause_of}
use Rattle.clause_pool.proofs.LiteralLaws.{is_true-complement}
use Rattle.clausify.specs.Coded.{construct_variables}
use Rattle.clausify.specs.Formulas.{connectives, formula_literal, literals_from}
use Rattle.clausify.specs.Items.{Item, construct_items, free_item, encoded_items}
use Rattle.clausify.proofs.FormulaLaws.{Names, Begins, names_first, names_last}
use Rattle.clausify.proofs.ItemLaws.{AllBelow, AllFit, AllMeet, items_named, items_named-append, length-items_named, literals_true, free_items_fit, free_items_met, construct_items_fit, constructible_from_meets, meets_from_constructible}
use Rattle.clausify.proofs.LiftLaws.{lifted, IsLiftedOver, lift_items, IsOver, items_over}
use Rattle.clausify.proofs.ListLaws.{all-append, all_first, all_last, all_weaker}
use Rattle.clausify.proofs.Truth.{true_negative}
use Rattle.wide_clauses.specs.Chains.{wide_literal}
use Rattle.wide_clauses.specs.WideItems.{taken_by, wide_items, wide_literals}
use Rattle.wide_clauses.proofs.WideItemLaws.{wide_named, wide_named-append, length-wide_named, wide_literals_true, IsWideLifted, lift_wide, IsWideOver, wide_over}
use Rattle.supplement_findings.specs.Answering.{IsPosed}
use Rattle.supplement_findings.specs.Clauses.{breaks_own, swaps_own, own, breaks_lits, question_lits, goal_parts, goal_clauses, all_goal_clauses, and_all, all_rule, unbroken, unbroken_rules, unbroken_taken, other_own, other_lits, other_variables, all_other, all_other_lits, literal_with, shared_rules, shared_lits, asked_items, asked_start, goals_start, question_clauses, shared_start, together_clauses, together_items, together_start, questions_clauses}
use Rattle.supplement_findings.specs.Ends.{with_code, breaks_with, swaps_with}
use Rattle.supplement_findings.specs.Questions.{rule_at, meets, QuestionFits}
use Rattle.supplement_findings.specs.Touching.{after, touched, afters}
use Rattle.supplement_findings.specs.declared.lits.QuestionLits.{QuestionLits}
use Rattle.supplement_findings.specs.declared.lits.QuestionLits.TheVariants.{BreaksLits, SwapsLits}
use Rattle.supplement_findings.specs.declared.question.SupplementQuestion.{SupplementQuestion}
use Rattle.supplement_findings.specs.declared.question.SupplementQuestion.TheVariants.{Breaks, Swaps}
use Rattle.supplement_findings.proofs.FitLaws.{supplement_fits, constructs_fit, own_below, other_below, shared_below, unbroken_below}
use Rattle.supplement_findings.proofs.QuestionLaws.{breaks_over, swaps_over}
use Rattle.supplement_findings.proofs.TouchLaws.{broken_after}

-- what a goal asks for is met
abbrev pub goal_met : (ℕ → Bool) → QuestionLits → Bool
goal_met a lits = list_all (λ ls. list_any (is_true a) ls) (goal_parts lits)

clause_where : (a : ℕ → Bool) (w : ℕ) (ls : List ℕ) → clause_true a (clause_of (literal w false ∷ ls)) ≡ (not (a w) || list_any (is_true a) ls)
clause_where a w ls = clause_true-clause_of a (literal w false ∷ ls) ∙ ap (λ t. t || list_any (is_true a) ls) (true_negative a w)

implied : (t u : Bool) → (t ≡ true → u ≡ true) → (not t || u) ≡ true
implied true u h = h refl
implied false u h = refl

implied_back : (t u : Bool) → (not t || u) ≡ true → t ≡ true → u ≡ true
implied_back true u h e = h
implied_back false u h e = absurd (false≢true e)

-- a clause of the goal, and what it says
where_true : (a : ℕ → Bool) (w : ℕ) (ls : List ℕ) → (a w ≡ true → list_any (is_true a) ls ≡ true) → clause_true a (clause_of (literal w false ∷ ls)) ≡ true
where_true a w ls h = clause_where a w ls ∙ implied (a w) (list_any (is_true a) ls) h

then_true : (a : ℕ → Bool) (w : ℕ) (ls : List ℕ) → clause_true a (clause_of (literal w false ∷ ls)) ≡ true → a w ≡ true → list_any (is_true a) ls ≡ true
then_true a w ls h e = implied_back (a w) (list_any (is_true a) ls) (sym (clause_where a w ls) ∙ h) e

-- the clauses of a goal hold where its variable says that it is met, or is false
sat_parts : (a : ℕ → Bool) (w : ℕ) (parts : List (List ℕ)) → (a w ≡ true → list_all (λ ls. list_any (is_true a) ls) parts ≡ true)
    → Sat (map (λ ls. clause_of (literal w false ∷ ls)) parts) a
sat_parts a w [] h = tt
sat_parts a w (ls ∷ parts) h = (where_true a w ls (λ e. (and_parts _ _ (h e)).0), sat_parts a w parts (λ e. (and_parts _ _ (h e)).1))

parts_met : (a : ℕ → Bool) (w : ℕ) (parts : List (List ℕ)) → Sat (map (λ ls. clause_of (literal w false ∷ ls)) parts) a → a w ≡ true
    → list_all (λ ls. list_any (is_true a) ls) parts ≡ true
parts_met a w [] sat on = refl
parts_met a w (ls ∷ parts) sat on = and_from _ _ (then_true a w ls sat.0 on) (parts_met a w parts sat.1 on)

-- that a formula is true and a code absent, and that something is broken; or the same of two rules, of which not both formulas stay true
abbrev breaks_value : Bool → Bool → Bool → Bool
breaks_value h c broken = (h || false) && ((not c || false) && (broken && true))

abbrev swaps_value : Bool → Bool → Bool → Bool → Bool → Bool → Bool
swaps_value hs cs ht ct h k = (hs || false) && ((not cs || false) && ((ht || false) && ((not ct || false) && ((not h || (not k || false)) && true))))

abbrev any_broken : Contents → ℕ → ℕ → List Bool → Bool
any_broken b day c x = list_any (λ r. not (holds (after c r.demand) x)) (touched b day c)

-- what a goal asks for, of a constructible set
abbrev pub shown : Contents → ℕ → SupplementQuestion → List Bool → Bool
shown b day (Breaks place) x =
    let s : Supplement = rule_at b place in breaks_value (holds s.rule x) (has x s.code) (any_broken b day s.code x)
shown b day (Swaps first second) x =
    let s : Supplement = rule_at b first in
    let t : Supplement = rule_at b second in
    swaps_value (holds s.rule x) (has x s.code) (holds t.rule x) (has x t.code) (holds (with_present s.code t.rule) x) (holds (with_present t.code s.rule) x)

any_complement : (a : ℕ → Bool) (ls : List ℕ) → list_any (is_true a) (map complement ls) ≡ list_any not (map (is_true a) ls)
any_complement a [] = refl
any_complement a (l ∷ ls) = rw (is_true-complement a l, any_complement a ls) refl

any_unmet : (c : ℕ) (x : List Bool) (rs : List Construct)
    → list_any not (map (λ f. holds f x) (map (λ r. after c r.demand) rs)) ≡ list_any (λ r. not (holds (after c r.demand) x)) rs
any_unmet c x [] = refl
any_unmet c x (r ∷ rs) = rw (any_unmet c x rs) refl

-- the literal that a code is absent
absent_true : (b : Contents) (x : List Bool) (a : ℕ → Bool) → Begins (length b.codes) (length b.codes) x a → (c : ℕ) → c < length b.codes → is_true a (literal c false) ≡ not (has x c)
absent_true b x a begins c within = true_negative a c ∙ ap not (begins.codes c within)

goal_breaks : (b : Contents) (day : ℕ) (s : Supplement) (x : List Bool) (a : ℕ → Bool) (v : ℕ) → Begins (length b.codes) (length b.codes) x a → s.code < length b.codes
    → map (is_true a) (literals_from (length b.codes) v (breaks_own b day s)) ≡ map (λ f. holds f x) (breaks_own b day s)
    → goal_met a (breaks_lits b day v s) ≡ breaks_value (holds s.rule x) (has x s.code) (any_broken b day s.code x)
goal_breaks b day s x a v begins within all =
    let n : ℕ = length b.codes in
    let ls : List ℕ = literals_from n (v + connectives s.rule) (afters b day s.code) in
    let first : is_true a (formula_literal n v s.rule) ≡ holds s.rule x = ap (λ (ts : List Bool). get_or ts 0 false) all in
    let rest : map (is_true a) ls ≡ map (λ f. holds f x) (afters b day s.code) = ap (λ (ts : List Bool). drop 1 ts) all in
    rw (first, absent_true b x a begins s.code within, any_complement a ls, rest, any_unmet s.code x (touched b day s.code)) refl

goal_swaps : (b : Contents) (s t : Supplement) (x : List Bool) (a : ℕ → Bool) (f g h k : ℕ) → Begins (length b.codes) (length b.codes) x a → s.code < length b.codes → t.code < length b.codes
    → map (is_true a) (f ∷ g ∷ h ∷ k ∷ []) ≡ map (λ r. holds r x) (swaps_own s t)
    → goal_met a (SwapsLits f s.code g t.code h k)
    ≡ swaps_value (holds s.rule x) (has x s.code) (holds t.rule x) (has x t.code) (holds (with_present s.code t.rule) x) (holds (with_present t.code s.rule) x)
goal_swaps b s t x a f g h k begins within_s within_t all =
    let at_f : is_true a f ≡ holds s.rule x = ap (λ (ts : List Bool). get_or ts 0 false) all in
    let at_g : is_true a g ≡ holds t.rule x = ap (λ (ts : List Bool). get_or ts 1 false) all in
    let at_h : is_true a h ≡ holds (with_present s.code t.rule) x = ap (λ (ts : List Bool). get_or ts 2 false) all in
    let at_k : is_true a k ≡ holds (with_present t.code s.rule) x = ap (λ (ts : List Bool). get_or ts 3 false) all in
    rw (at_f, absent_true b x a begins s.code within_s, at_g, absent_true b x a begins t.code within_t, is_true-complement a h, at_h, is_true-complement a k, at_k) refl

pub goal_shown : (b : Contents) (day : ℕ) (q : SupplementQuestion) (x : List Bool) (a : ℕ → Bool) (v : ℕ) → IsBook b → QuestionFits b q → Begins (length b.codes) (length b.codes) x a
    → Names a x v (items_named (map free_item (own b day q))) → goal_met a (question_lits b day v q) ≡ shown b day q x
goal_shown b day (Breaks place) x a v book fits begins names =
    goal_breaks b day (rule_at b place) x a v begins (supplement_fits b place book fits).code
    (literals_true (length b.codes) x a begins v (own b day (Breaks place)) (own_below b day (Breaks place) book fits) names)
goal_shown b day (Swaps first second) x a v book fits begins names =
    goal_swaps b (rule_at b first) (rule_at b second) x a _ _ _ _ begins (supplement_fits b first book fits.0).code (supplement_fits b second book fits.1).code
    (literals_true (length b.codes) x a begins v (own b day (Swaps first second)) (own_below b day (Swaps first second) book fits) names)

-- over a constructible set of the book's codes that is what the question asks for
breaks_table : (h c u : Bool) → (true && (true && h && not c) && not (not u)) ≡ breaks_value h c u
breaks_table h c u = grind arith

swaps_table : (hs cs ht ct h k : Bool) → (true && (true && hs && not cs) && (true && ht && not ct) && not false && not (h && k)) ≡ swaps_value hs cs ht ct h k
swaps_table hs cs ht ct h k = grind arith

breaks_shown : (b : Contents) (day : ℕ) (s : Supplement) (x : List Bool) → IsBook b → s.code < length b.codes → is_within s.from s.until day ≡ true → length x ≡ length b.codes
    → is_constructible b day x ≡ true → breaks_with b day s x ≡ breaks_value (holds s.rule x) (has x s.code) (any_broken b day s.code x)
breaks_shown b day s x book within active len built =
    let inside : s.code < length x = rw len within in
    rw (built, active, broken_after (length b.codes) day x s.code b.constructs inside (constructs_fit b book) (not-true _ built)) (breaks_table (holds s.rule x) (has x s.code) (any_broken b day s.code x))

swaps_shown : (b : Contents) (day : ℕ) (s t : Supplement) (x : List Bool) → s.code < length b.codes → t.code < length b.codes → is_within s.from s.until day ≡ true
    → is_within t.from t.until day ≡ true → eqb s.code t.code ≡ false → length x ≡ length b.codes → is_constructible b day x ≡ true
    → swaps_with b day s t x
    ≡ swaps_value (holds s.rule x) (has x s.code) (holds t.rule x) (has x t.code) (holds (with_present s.code t.rule) x) (holds (with_present t.code s.rule) x)
swaps_shown b day s t x within_s within_t active_s active_t apart len built =
    let first : s.code < length x = rw len within_s in
    let second : t.code < length x = rw len within_t in
    rw (built, active_s, active_t, apart, ← holds-with_present x s.code first t.rule, ← holds-with_present x t.code second s.rule)
    (swaps_table (holds s.rule x) (has x s.code) (holds t.rule x) (has x t.code) (holds (with_present s.code t.rule) x) (holds (with_present t.code s.rule) x))

pub meets_shown : (b : Contents) (day : ℕ) (codes : List ℕ) (q : SupplementQuestion) (x : List Bool) → IsBook b → IsPosed b day codes q → length x ≡ length b.codes → is_constructible b day x ≡ true
    → meets b day q x ≡ shown b day q x
meets_shown b day codes (Breaks place) x book posed len built = breaks_shown b day (rule_at b place) x book (supplement_fits b place book posed.fits).code posed.put len built
meets_shown b day codes (Swaps first second) x book posed len built =
    let both = and_parts (is_within (rule_at b first).from (rule_at b first).until day) (is_within (rule_at b second).from (rule_at b second).until day) posed.put in
    let apart = and_parts (not (eqb (rule_at b first).code (rule_at b second).code)) _ posed.fits.2 in
    swaps_shown b day (rule_at b first) (rule_at b second) x (supplement_fits b first book posed.fits.0).code (supplement_fits b second book posed.fits.1).code both.0 both.1
    (not-true _ apart.0) len built

-- what is constructible is part of what each question asks for
pub built_from_meets : (b : Contents) (day : ℕ) (q : SupplementQuestion) (x : List Bool) → meets b day q x ≡ true → is_constructible b day x ≡ true
built_from_meets b day (Breaks place) x h = (breaks_over b day (rule_at b place) x h).built
built_from_meets b day (Swaps first second) x h = (swaps_over b day (rule_at b first) (rule_at b second) x h).built

-- the formula of all is false just where one of them is
not_both : (t u v : Bool) → (not (t && u) || v) ≡ (not t || (not u || v))
not_both true u v = refl
not_both false u v = refl

not_and_all : (x : List Bool) (f : Rule) (gs : List Rule) → not (holds (and_all f gs) x) ≡ (not (holds f x) || list_any (λ g. not (holds g x)) gs)
not_and_all x f [] = sym (or-false (not (holds f x)))
not_and_all x f (g ∷ gs) = not_and_all x (both f g) gs ∙ not_both (holds f x) (holds g x) (list_any (λ h. not (holds h x)) gs)

not_all_rule : (x : List Bool) (fs : List Rule) → not (holds (all_rule fs) x) ≡ list_any (λ f. not (holds f x)) fs
not_all_rule x [] = refl
not_all_rule x (f ∷ fs) = not_and_all x f fs

any_after : (c : ℕ) (x : List Bool) (rs : List Construct) → list_any (λ f. not (holds f x)) (map (λ r. after c r.demand) rs) ≡ list_any (λ r. not (holds (after c r.demand) x)) rs
any_after c x [] = refl
any_after c x (r ∷ rs) = rw (any_after c x rs) refl

pub not_unbroken : (b : Contents) (day c : ℕ) (x : List Bool) → not (holds (unbroken b day c) x) ≡ list_any (λ r. not (holds (after c r.demand) x)) (touched b day c)
not_unbroken b day c x = not_all_rule x (afters b day c) ∙ any_after c x (touched b day c)

-- the literal that stands with one of the codes has the truth of its formula
literal_with_true : (a : ℕ → Bool) (x : List Bool) (rule : ℕ → Rule) (codes lits : List ℕ) (c : ℕ) → map (is_true a) lits ≡ map (λ f. holds f x) (map rule codes)
    → list_any (λ k. eqb k c) codes ≡ true → is_true a (literal_with codes lits c) ≡ holds (rule c) x
literal_with_true a x rule [] lits c all there = absurd (false≢true there)
literal_with_true a x rule (k ∷ codes) [] c all there = absurd (cc)
literal_with_true a x rule (k ∷ codes) (l ∷ lits) c all there =
    let first : is_true a l ≡ holds (rule k) x = ap (λ (ts : List Bool). get_or ts 0 false) all in
    let rest : map (is_true a) lits ≡ map (λ f. holds f x) (map rule codes) = ap (λ (ts : List Bool). drop 1 ts) all in
    elim (cases_Bool (eqb k c)) [
      | inl same ↦ rw same (first ∙ ap (λ (n : ℕ). holds (rule n) x) (eqb-true k c same))
      | inr apart ↦ rw apart (literal_with_true a x rule codes lits c rest (rw apart at there))
    ]

abbrev NamesOf : (ℕ → Bool) → List Bool → ℕ → List Rule → Type 0
NamesOf a x v fs = Names a x v (items_named (map free_item fs))

-- the same where a chain takes one variable, and those of further formulas behind
abbrev WideNamesOf : (ℕ → Bool) → List Bool → ℕ → List Rule → Type 0
WideNamesOf a x v fs = Names a x v (wide_named (map free_item fs))

record NamesOfBoth (a : ℕ → Bool) (x : List Bool) (v : ℕ) (fs gs : List Rule) : Type 0 where
  first : WideNamesOf a x v fs
  then : WideNamesOf a x (v + taken_by (map free_item fs)) gs

names_of_both : (a : ℕ → Bool) (x : List Bool) (v : ℕ) (fs gs : List Rule) → WideNamesOf a x v (fs ++ gs) → NamesOfBoth a x v fs gs
names_of_both a x v fs gs h =
    let here : List Item = map free_item fs in
    let later : List Item = map free_item gs in
    let split : Names a x v (wide_named here ++ wide_named later) = rw (map-append, wide_named-append) at h in
    record {
      first = names_first a x v (wide_named here) (wide_named later) split;
      then = let behind = names_last a x v (wide_named here) (wide_named later) split in rw (length-wide_named here) at behind;
    }

-- a rule that has this truth over every set
abbrev truth_rule : Bool → Rule
truth_rule true = always
truth_rule false = never

holds-truth_rule : (t : Bool) (x : List Bool) → holds (truth_rule t) x ≡ t
holds-truth_rule true x = refl
holds-truth_rule false x = refl

abbrev values : Contents → ℕ → List Bool → List SupplementQuestion → List Rule
values b day x qs = map (λ q. truth_rule (meets b day q x)) qs

-- each goal is met just where its question is
abbrev GoalsMean : (ℕ → Bool) → List Bool → Contents → ℕ → List QuestionLits → List SupplementQuestion → Type 0
GoalsMean a x b day lits qs = AllZip (λ (q : SupplementQuestion) (l : QuestionLits). goal_met a l ≡ meets b day q x) qs lits

module _ (b : Contents) (day : ℕ) (codes : List ℕ) (book : IsBook b) (x : List Bool) (len : length x ≡ length b.codes) (built : is_constructible b day x ≡ true)
    (a : ℕ → Bool) (begins : Begins (length b.codes) (length b.codes) x a) where
  goal_meets : (q : SupplementQuestion) (v : ℕ) → IsPosed b day codes q → NamesOf a x v (own b day q) → goal_met a (question_lits b day v q) ≡ meets b day q x
  goal_meets q v posed names = goal_shown b day q x a v book posed.fits begins names ∙ sym (meets_shown b day codes q x book posed len built)

  -- the same where the literal of the question's code is known
  other_meets : (known : List ℕ) (v : ℕ) (q : SupplementQuestion) → IsPosed b day codes q → map (is_true a) known ≡ map (λ f. holds f x) (unbroken_rules b day codes)
      → WideNamesOf a x v (other_own b q) → goal_met a (other_lits b codes known v q) ≡ meets b day q x
  other_meets known v (Swaps first second) posed are names =
      goal_swaps b (rule_at b first) (rule_at b second) x a _ _ _ _ begins (supplement_fits b first book posed.fits.0).code (supplement_fits b second book posed.fits.1).code
      (wide_literals_true (length b.codes) x a begins v (other_own b (Swaps first second)) (other_below b (Swaps first second) book posed.fits) names)
      ∙ sym (meets_shown b day codes (Swaps first second) x book posed len built)
  other_meets known v (Breaks place) posed are names =
      let s : Supplement = rule_at b place in
      let n : ℕ = length b.codes in
      let fits = supplement_fits b place book posed.fits in
      let u : ℕ = literal_with codes known s.code in
      let fired : is_true a (wide_literal n v s.rule) ≡ holds s.rule x =
      ap (λ (ts : List Bool). get_or ts 0 false) (wide_literals_true n x a begins v (s.rule ∷ []) (fits.rule.in_range, tt) names) in
      let unmet : (is_true a (complement u) || false) ≡ any_broken b day s.code x =
      or-false (is_true a (complement u)) ∙ is_true-complement a u ∙ ap not (literal_with_true a x (unbroken b day) codes known s.code are posed.read) ∙ not_unbroken b day s.code x in
      rw (fired, absent_true b x a begins s.code fits.code, unmet) (sym (meets_shown b day codes (Breaks place) x book posed len built))

  others_meet : (known : List ℕ) (v : ℕ) (qs : List SupplementQuestion) → AllByRecursion (IsPosed b day codes) qs → map (is_true a) known ≡ map (λ f. holds f x) (unbroken_rules b day codes)
      → WideNamesOf a x v (all_other b qs) → GoalsMean a x b day (all_other_lits b codes known v qs) qs
  others_meet known v [] posed are names = tt
  others_meet known v (q ∷ qs) posed are names =
      let both = names_of_both a x v (other_own b q) (all_other b qs) names in
      (other_meets known v q posed.0 are both.first, others_meet known (v + other_variables b q) qs posed.1 are both.then)

  shared_meet : (v : ℕ) (qs : List SupplementQuestion) → AllByRecursion (IsPosed b day codes) qs → WideNamesOf a x v (shared_rules b day codes qs)
      → GoalsMean a x b day (shared_lits b day codes v qs) qs
  shared_meet v qs posed names =
      let both = names_of_both a x v (unbroken_rules b day codes) (all_other b qs) names in
      let n : ℕ = length b.codes in
      others_meet (wide_literals n v (unbroken_rules b day codes)) (v + unbroken_taken b day codes) qs posed
      (wide_literals_true n x a begins v (unbroken_rules b day codes) (unbroken_below b day codes book) both.first) both.then

  sat_goals : (w : ℕ) (qs : List SupplementQuestion) (lits : List QuestionLits) → GoalsMean a x b day lits qs → Names a x w (values b day x qs) → Sat (all_goal_clauses w lits) a
  sat_goals w [] [] mean values_ = tt
  sat_goals w [] (l ∷ lits) mean values_ = absurd mean
  sat_goals w (q ∷ qs) [] mean values_ = absurd mean
  sat_goals w (q ∷ qs) (l ∷ lits) mean values_ =
      all-append _ (goal_clauses w l) _
      (sat_parts a w (goal_parts l) (λ e. mean.0 ∙ sym (holds-truth_rule (meets b day q x) x) ∙ sym values_.0 ∙ e))
      (sat_goals (w + 1) qs lits mean.1 values_.1)

  -- the goal's variable is true only where the question is met
  goal_at : (w : ℕ) (qs : List SupplementQuestion) (lits : List QuestionLits) → GoalsMean a x b day lits qs → Sat (all_goal_clauses w lits) a
      → (k : ℕ) (q : SupplementQuestion) → slice_get qs k ≡ Some q → a (w + k) ≡ true → meets b day q x ≡ true
  goal_at w [] lits mean sat k q there on = absurd (none-some q there)
  goal_at w (p ∷ qs) [] mean sat k q there on = absurd mean
  goal_at w (p ∷ qs) (l ∷ lits) mean sat zero q there on =
      let here : a w ≡ true = ap a (let e : w ≡ w + zero = omega arith in e) ∙ on in
      subst (λ (r : SupplementQuestion). meets b day r x ≡ true) (same_Some p q there)
      (sym mean.0 ∙ parts_met a w (goal_parts l) (all_first _ (goal_clauses w l) _ sat) here)
  goal_at w (p ∷ qs) (l ∷ lits) mean sat (suc k) q there on =
      goal_at (w + 1) qs lits mean.1 (all_last _ (goal_clauses w l) _ sat) k q there
      (ap a (let e : w + 1 + k ≡ w + suc k = omega arith in e) ∙ on)

-- the variable of a question's goal has the question's value
value_at : (a : ℕ → Bool) (b : Contents) (day : ℕ) (x : List Bool) (w : ℕ) (qs : List SupplementQuestion) → Names a x w (values b day x qs)
    → (k : ℕ) (q : SupplementQuestion) → slice_get qs k ≡ Some q → a (w + k) ≡ meets b day q x
value_at a b day x w [] names k q there = absurd (none-some q there)
value_at a b day x w (p ∷ qs) names zero q there =
    ap a (let e : w + zero ≡ w = omega arith in e) ∙ names.0 ∙ holds-truth_rule (meets b day p x) x ∙ ap (λ (r : SupplementQuestion). meets b day r x) (same_Some p q there)
value_at a b day x w (p ∷ qs) names (suc k) q there =
    ap a (let e : w + suc k ≡ w + 1 + k = omega arith in e) ∙ value_at a b day x (w + 1) qs names.1 k q there

pub posed_fit : (b : Contents) (day : ℕ) (codes : List ℕ) (qs : List SupplementQuestion) → AllByRecursion (IsPosed b day codes) qs → AllByRecursion (QuestionFits b) qs
posed_fit b day codes qs posed = all_weaker (IsPosed b day codes) (QuestionFits b) (λ q h. h.fits) qs posed

pub asked_fit : (b : Contents) (day : ℕ) (rules : List Rule) → IsBook b → AllBelow (length b.codes) rules → AllFit (length b.codes) (asked_items b day rules)
asked_fit b day rules book below =
    all-append _ (construct_items b day) (map free_item rules) (construct_items_fit b day book.constructs_fit) (free_items_fit (length b.codes) rules below)

asked_names : (b : Contents) (day : ℕ) (rules : List Rule) (x : List Bool) (a : ℕ → Bool) → Names a x (length b.codes + 1) (items_named (asked_items b day rules))
    → NamesOf a x (construct_variables b day) rules
asked_names b day rules x a h =
    let first : List Item = construct_items b day in
    let mine : List Item = map free_item rules in
    let split : Names a x (length b.codes + 1) (items_named first ++ items_named mine) = subst (λ (fs : List Rule). Names a x (length b.codes + 1) fs) (items_named-append first mine) h in
    subst (λ (k : ℕ). Names a x (length b.codes + 1 + k) (items_named mine)) (length-items_named first) (names_last a x (length b.codes + 1) (items_named first) (items_named mine) split)

-- an assignment that satisfies the clauses and meets a goal's literal
pub record MeetsGoal (clauses : List (List ℕ)) (variable : ℕ) : Type 0 where
  pub assignment : ℕ → Bool
  pub satisfies : Sat clauses assignment
  pub meets_it : assignment variable ≡ true

-- of a question alone
lifts_alone : (b : Contents) (day : ℕ) (codes : List ℕ) (p : SupplementQuestion) → IsBook b → IsPosed b day codes p → (k : ℕ) (q : SupplementQuestion) → slice_get (p ∷ []) k ≡ Some q
    → (x : List Bool) → length x ≡ length b.codes → meets b day q x ≡ true → MeetsGoal (question_clauses b day p) (goals_start b day (own b day p) + k)
lifts_alone b day codes p book posed k q there x len met =
    let n : ℕ = length b.codes in
    let rules : List Rule = own b day p in
    let is : List Item = asked_items b day rules in
    let own_rules : List Rule = values b day x (p ∷ []) in
    let built = built_from_meets b day q x met in
    let a : ℕ → Bool = lifted n (n + 1) x (items_named is ++ own_rules) in
    let below = own_below b day p book posed.fits in
    let all_met : AllMeet x is = all-append _ (construct_items b day) (map free_item rules) (meets_from_constructible b day x built) (free_items_met x rules) in
    let l : IsLiftedOver n n (n + 1) is own_rules x a = lift_items n n (n + 1) is own_rules x (omega arith) (omega arith) (λ (h : n < n). absurd (omega arith)) (asked_fit b day rules book below) all_met in
    let names : NamesOf a x (construct_variables b day) rules = asked_names b day rules x a (names_first a x (n + 1) (items_named is) own_rules l.names) in
    let mean : GoalsMean a x b day (question_lits b day (construct_variables b day) p ∷ []) (p ∷ []) =
    (goal_meets b day codes book x len built a l.begins p (construct_variables b day) posed names, tt) in
    let goals : Names a x (goals_start b day rules) own_rules =
    subst (λ (m : ℕ). Names a x (n + 1 + m) own_rules) (length-items_named is) (names_last a x (n + 1) (items_named is) own_rules l.names) in
    record {
      assignment = a;
      satisfies =
          all-append _ (encoded_items n (n + 1) is) _ l.satisfies
          (sat_goals b day codes book x len built a l.begins (goals_start b day rules) (p ∷ []) (question_lits b day (construct_variables b day) p ∷ []) mean goals);
      meets_it = value_at a b day x (goals_start b day rules) (p ∷ []) goals k q there ∙ met;
    }

reads_alone : (b : Contents) (day : ℕ) (codes : List ℕ) (p : SupplementQuestion) → IsBook b → IsPosed b day codes p → (k : ℕ) (q : SupplementQuestion) → slice_get (p ∷ []) k ≡ Some q
    → (x : List Bool) (a : ℕ → Bool) → length x ≡ length b.codes → ((i : ℕ) → i < length b.codes → a i ≡ has x i) → Sat (question_clauses b day p) a
    → a (goals_start b day (own b day p) + k) ≡ true → meets b day q x ≡ true
reads_alone b day codes p book posed k q there x a len begins sat on =
    let n : ℕ = length b.codes in
    let rules : List Rule = own b day p in
    let is : List Item = asked_items b day rules in
    let o : IsOver n n (n + 1) is x a = items_over n n (n + 1) is x a (asked_fit b day rules book (own_below b day p book posed.fits)) begins (all_first _ (encoded_items n (n + 1) is) _ sat) in
    let built : is_constructible b day x ≡ true = constructible_from_meets b day x (all_first _ (construct_items b day) (map free_item rules) o.meets) in
    let mean : GoalsMean a x b day (question_lits b day (construct_variables b day) p ∷ []) (p ∷ []) =
    (goal_meets b day codes book x len built a o.begins p (construct_variables b day) posed (asked_names b day rules x a o.names), tt) in
    goal_at b day codes book x len built a o.begins (goals_start b day rules) (p ∷ []) (question_lits b day (construct_variables b day) p ∷ []) mean
    (all_last _ (encoded_items n (n + 1) is) _ sat) k q there on

-- of several
shared_names : (b : Contents) (day : ℕ) (codes : List ℕ) (qs : List SupplementQuestion) (x : List Bool) (a : ℕ → Bool) → Names a x (length b.codes + 1) (wide_named (together_items b day codes qs))
    → WideNamesOf a x (shared_start b day) (shared_rules b day codes qs)
shared_names b day codes qs x a h =
    let first : List Item = construct_items b day in
    let mine : List Item = map free_item (shared_rules b day codes qs) in
    let behind = names_last a x (length b.codes + 1) (wide_named first) (wide_named mine) (rw (wide_named-append first mine) at h) in
    rw (length-wide_named first) at behind

lifts_together : (b : Contents) (day : ℕ) (codes : List ℕ) (qs : List SupplementQuestion) → IsBook b → AllByRecursion (IsPosed b day codes) qs → (k : ℕ) (q : SupplementQuestion) → slice_get qs k ≡ Some q
    → (x : List Bool) → length x ≡ length b.codes → meets b day q x ≡ true → MeetsGoal (together_clauses b day codes qs) (together_start b day codes qs + k)
lifts_together b day codes qs book posed k q there x len met =
    let n : ℕ = length b.codes in
    let rules : List Rule = shared_rules b day codes qs in
    let is : List Item = together_items b day codes qs in
    let own_rules : List Rule = values b day x qs in
    let built = built_from_meets b day q x met in
    let a : ℕ → Bool = lifted n (n + 1) x (wide_named is ++ own_rules) in
    let below = shared_below b day codes qs book (posed_fit b day codes qs posed) in
    let all_met : AllMeet x is = all-append _ (construct_items b day) (map free_item rules) (meets_from_constructible b day x built) (free_items_met x rules) in
    let l : IsWideLifted n is own_rules x a = lift_wide n is own_rules x (asked_fit b day rules book below) all_met in
    let names : WideNamesOf a x (shared_start b day) rules = shared_names b day codes qs x a (names_first a x (n + 1) (wide_named is) own_rules l.names) in
    let mean = shared_meet b day codes book x len built a l.begins (shared_start b day) qs posed names in
    let goals : Names a x (together_start b day codes qs) own_rules =
    subst (λ (m : ℕ). Names a x (n + 1 + m) own_rules) (length-wide_named is) (names_last a x (n + 1) (wide_named is) own_rules l.names) in
    record {
      assignment = a;
      satisfies =
          all-append _ (wide_items n is) _ l.satisfies
          (sat_goals b day codes book x len built a l.begins (together_start b day codes qs) qs (shared_lits b day codes (shared_start b day) qs) mean goals);
      meets_it = value_at a b day x (together_start b day codes qs) qs goals k q there ∙ met;
    }

reads_together : (b : Contents) (day : ℕ) (codes : List ℕ) (qs : List SupplementQuestion) → IsBook b → AllByRecursion (IsPosed b day codes) qs → (k : ℕ) (q : SupplementQuestion) → slice_get qs k ≡ Some q
    → (x : List Bool) (a : ℕ → Bool) → length x ≡ length b.codes → ((i : ℕ) → i < length b.codes → a i ≡ has x i) → Sat (together_clauses b day codes qs) a
    → a (together_start b day codes qs + k) ≡ true → meets b day q x ≡ true
reads_together b day codes qs book posed k q there x a len begins sat on =
    let n : ℕ = length b.codes in
    let rules : List Rule = shared_rules b day codes qs in
    let is : List Item = together_items b day codes qs in
    let below = shared_below b day codes qs book (posed_fit b day codes qs posed) in
    let o : IsWideOver n is x a = wide_over n is x a (asked_fit b day rules book below) begins (all_first _ (wide_items n is) _ sat) in
    let built : is_constructible b day x ≡ true = constructible_from_meets b day x (all_first _ (construct_items b day) (map free_item rules) o.meets) in
    let mean = shared_meet b day codes book x len built a o.begins (shared_start b day) qs posed (shared_names b day codes qs x a o.names) in
    goal_at b day codes book x len built a o.begins (together_start b day codes qs) qs (shared_lits b day codes (shared_start b day) qs) mean
    (all_last _ (wide_items n is) _ sat) k q there on

pub lifts_to_goal : (b : Contents) (day : ℕ) (codes : List ℕ) (qs : List SupplementQuestion) → IsBook b → AllByRecursion (IsPosed b day codes) qs → (k : ℕ) (q : SupplementQuestion) → slice_get qs k ≡ Some q
    → (x : List Bool) → length x ≡ length b.codes → meets b day q x ≡ true → MeetsGoal (questions_clauses b day codes qs) (asked_start b day codes qs + k)
lifts_to_goal b day codes [] book posed k q there x len met = lifts_together b day codes [] book posed k q there x len met
lifts_to_goal b day codes (p ∷ []) book posed k q there x len met = lifts_alone b day codes p book posed.0 k q there x len met
lifts_to_goal b day codes (p ∷ r ∷ qs) book posed k q there x len met = lifts_together b day codes (p ∷ r ∷ qs) book posed k q there x len met

pub meets_from_goal : (b : Contents) (day : ℕ) (codes : List ℕ) (qs : List SupplementQuestion) → IsBook b → AllByRecursion (IsPosed b day codes) qs → (k : ℕ) (q : SupplementQuestion) → slice_get qs k ≡ Some q
    → (x : List Bool) (a : ℕ → Bool) → length x ≡ length b.codes → ((i : ℕ) → i < length b.codes → a i ≡ has x i) → Sat (questions_clauses b day codes qs) a
    → a (asked_start b day codes qs + k) ≡ true → meets b day q x ≡ true
meets_from_goal b day codes [] book posed k q there x a len begins sat on = reads_together b day codes [] book posed k q there x a len begins sat on
meets_from_goal b day codes (p ∷ []) book posed k q there x a len begins sat on = reads_alone b day codes p book posed.0 k q there x a len begins sat on
meets_from_goal b day codes (p ∷ r ∷ qs) book posed k q there x a len begins sat on = reads_together b day codes (p ∷ r ∷ qs) book posed k q there x a len begins sat on
