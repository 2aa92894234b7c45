-- The variables of questions are few enough to be numbered, and their clauses speak of no others.
use Rattle.std.proofs.Common.{inl, inr, ◌≡◌, ℕ, suc, ◌+◌, ◌*◌, ◌≤◌, ◌<◌, Bool, true, false, not, ◌&&◌, ◌||◌, eqb, List, [], ◌∷◌, ◌++◌, None, Some, length, map, refl, sym, ap, subst, ◌∙◌, arith}
use Rattle.std.proofs.Math.Bool.{and-false}
use Rattle.std.specs.List.{filter, list_any, sum_by, AllByRecursion}
use Rattle.std.proofs.lemmas.Bool.{cases_Bool, cond-true, cond-false, eqb-true, false≢true, cond_both}
use Rattle.std.proofs.lemmas.List.{length-map, map-append}
use Rattle.std.proofs.lemmas.List.Filters.{length-filter_both}
use Rattle.std.proofs.lemmas.List.Sums.{sum_by-cons}
use Rattle.pb_base.specs.Leaves.{with_present, present}
use Rattle.pb_base.specs.Node.{nodes_of, size, size_with}
use Rattle.pb_base.specs.Rule.{Rule, code, negation, both, either, always, never, nodes}
use Rattle.pb_base.proofs.LeafLaws.{nodes-with_leaves}
use Rattle.pb_base.proofs.Nodes.{length-nodes_of}
use Rattle.book_model.specs.Activity.{is_within}
use Rattle.book_model.specs.Book.{IsBook, ConstructFits, DemandFits, RuleFits}
use Rattle.book_model.specs.Contents.{Contents}
use Rattle.book_model.specs.declared.demand.Demand.{Demand}
use Rattle.book_model.specs.declared.demand.Demand.TheVariants as demand
use Rattle.book_model.specs.declared.record.Construct.{Construct}
use Rattle.book_model.specs.declared.record.Supplement.{Supplement}
use Rattle.book_model.proofs.BookLimits.{constructs_below}
use Rattle.clause_pool.specs.Literal.{literal, complement}
use Rattle.clause_pool.specs.Clause.{AreBelow, clause_of}
use Rattle.clause_pool.proofs.ClauseLaws.{IsBelow-clause_of}
use Rattle.clausify.specs.Coded.{construct_variables}
use Rattle.clausify.specs.Formulas.{connectives, literals_from}
use Rattle.clausify.specs.Items.{construct_item, construct_items, free_item, Item, encoded_items, variables_of}
use Rattle.clausify.specs.Questions.{and_none, none_rule}
use Rattle.clausify.proofs.Bounds.{connectives_below, variables_below, demand_item_below}
use Rattle.clausify.proofs.ItemLaws.{AllBelow, variables_of-append}
use Rattle.clausify.proofs.ListLaws.{all-append, all_filtered, all_weaker}
use Rattle.clausify.proofs.RangeLaws.{positive_below, negative_below, complement_below, literal_below, items_below}
use Rattle.wide_clauses.specs.WideItems.{taken_by, wide_items, wide_literals}
use Rattle.wide_clauses.proofs.WideItemLaws.{taken_by-append, taken_by_most}
use Rattle.wide_clauses.proofs.WideRanges.{wide_items_below, wide_literal_below, wide_literals_below}
use Rattle.supplement_findings.specs.Answering.{IsPosed, IsRead, question_size, touch_count}
use Rattle.supplement_findings.specs.Clauses.{swaps_own, own, own_variables, question_lits, goal_clauses, all_goal_clauses, and_all, all_rule, unbroken, unbroken_rules, unbroken_taken, unbroken_variables, other_own, other_variables, other_lits, all_other, all_other_lits, literal_with, shared_lits, shared_rules, shared_start, asked_items, goals_start, question_clauses, question_variables, together_clauses, together_items, together_start, together_variables, questions_clauses, questions_variables, goal_parts}
use Rattle.supplement_findings.specs.Questions.{rule_at, QuestionFits}
use Rattle.supplement_findings.specs.Touching.{touches, no_other, after, is_touched, afters, touched_from}
use Rattle.supplement_findings.specs.declared.lits.QuestionLits.{QuestionLits}
use Rattle.supplement_findings.specs.declared.lits.QuestionLits.TheVariants.{BreaksLits, SwapsLits}
use Rattle.supplement_findings.specs.declared.question.SupplementQuestion.{SupplementQuestion}
use Rattle.supplement_findings.specs.declared.question.SupplementQuestion.TheVariants.{Breaks, Swaps}
use Rattle.supplement_findings.proofs.FitLaws.{supplement_fits, constructs_fit, own_below, other_below, shared_below, unbroken_below}
use Rattle.supplement_findings.proofs.GoalLaws.{asked_fit}

present_below : (n c : ℕ) (f : Rule) → RuleFits n f → connectives (with_present c f) ≤ 512
present_below n c f h = omega (arith, connectives_below (with_present c f), nodes-with_leaves (present c) f, h.size)

and_none_size : (f : Rule) (ks : List ℕ) → connectives (and_none f (map code ks)) ≡ connectives f + length ks
and_none_size f [] = omega arith
and_none_size f (k ∷ ks) = and_none_size (both f (negation (code k))) ks ∙ omega arith

none_size : (ks : List ℕ) → connectives (none_rule (map code ks)) ≤ length ks
none_size [] = omega arith
none_size (k ∷ ks) = omega (arith, and_none_size (negation (code k)) ks)

other_size : (c : ℕ) (group : List ℕ) → length group ≤ 64 → connectives (no_other c group) ≤ 512
other_size c group few = omega (arith, none_size (filter (λ k. not (eqb k c)) group), length-filter_both (λ k. not (eqb k c)) (λ k. not (not (eqb k c))) (λ _. refl) group)

after_size : (n c : ℕ) (d : Demand) → DemandFits n d → connectives (after c d) ≤ 513
after_size n c (demand.Rule None f) h = omega (arith, present_below n c f h.rule)
after_size n c (demand.Rule (Some on) f) h =
    elim (cases_Bool (eqb on c)) [
      | inl here ↦ rw here (omega (arith, present_below n c f h.rule))
      | inr apart ↦ rw apart (omega (arith, present_below n c f h.rule))
    ]
after_size n c (demand.One group) h = omega (arith, other_size c group h.most)
after_size n c (demand.Most group) h = omega (arith, other_size c group h.most)

pub touched_few : (c i : ℕ) (rs : List Construct) → length (touched_from i c rs) ≤ length rs
touched_few c i [] = omega arith
touched_few c i (r ∷ rs) =
    let later = touched_few c (suc i) rs in
    cond_both (touches c r.demand) _ _ (λ (ps : List ℕ). length ps ≤ suc (length rs)) (λ _. omega (arith, later)) (λ _. omega (arith, later))

-- so are the active rules among them
rules_few : (c day i : ℕ) (rs : List Construct) → length (filter (is_touched day c) rs) ≤ length (touched_from i c rs)
rules_few c day i [] = omega arith
rules_few c day i (r ∷ rs) =
    let later = rules_few c day (suc i) rs in
    elim (cases_Bool (touches c r.demand)) [
      | inl on_ ↦ rw on_ (cond_both (is_within r.from r.until day && true) _ _ (λ (ks : List Construct). length ks ≤ suc (length (touched_from (suc i) c rs))) (λ _. omega (arith, later)) (λ _. omega (arith, later)))
      | inr off ↦ rw (off, and-false) later
    ]

-- what rules ask takes few variables for each of them
asked_few : (n c : ℕ) (rs : List Construct) → AllByRecursion (ConstructFits n) rs → variables_of (map free_item (map (λ (r : Construct). after c r.demand) rs)) ≤ 513 * length rs
asked_few n c [] h = omega arith
asked_few n c (r ∷ rs) h = omega (arith, after_size n c r.demand h.0.demand, asked_few n c rs h.1)

-- a formula has no more nodes than it is kept in, and is kept in at most twice as many
nodes_kept : (f : Rule) (more : ℕ) → nodes f + more ≤ size_with f more
nodes_kept (code place) more = omega arith
nodes_kept (negation f) more = omega (arith, nodes_kept f (suc more))
nodes_kept (both f g) more = omega (arith, nodes_kept g (suc more), nodes_kept f (suc (size_with g (suc more))))
nodes_kept (either f g) more = omega (arith, nodes_kept g (suc more), nodes_kept f (suc (size_with g (suc more))))
nodes_kept always more = omega arith
nodes_kept never more = omega arith

kept_nodes : (f : Rule) (more : ℕ) → size_with f more ≤ 2 * nodes f + more
kept_nodes (code place) more = omega arith
kept_nodes (negation f) more = omega (arith, kept_nodes f (suc more))
kept_nodes (both f g) more = omega (arith, kept_nodes g (suc more), kept_nodes f (suc (size_with g (suc more))))
kept_nodes (either f g) more = omega (arith, kept_nodes g (suc more), kept_nodes f (suc (size_with g (suc more))))
kept_nodes always more = omega arith
kept_nodes never more = omega arith

pub size_few : (f : Rule) → nodes f ≤ 512 → size f ≤ 1024
size_few f few = omega (arith, kept_nodes f 0, few)

pub length_kept : (f : Rule) → length (nodes_of f) ≡ size f
length_kept f = length-nodes_of f

connectives_kept : (f : Rule) → connectives f ≤ size f
connectives_kept f = omega (arith, connectives_below f, nodes_kept f 0)

present_kept : (c : ℕ) (f : Rule) → connectives (with_present c f) ≤ size f
present_kept c f = omega (arith, connectives_below (with_present c f), nodes-with_leaves (present c) f, nodes_kept f 0)

pub question_few : (b : Contents) (q : SupplementQuestion) → IsBook b → QuestionFits b q → question_size b q ≤ 8192
question_few b (Breaks place) book fits = omega (arith, size_few (rule_at b place).rule (supplement_fits b place book fits).rule.size)
question_few b (Swaps first second) book fits =
    omega (arith, size_few (rule_at b first).rule (supplement_fits b first book fits.0).rule.size, size_few (rule_at b second).rule (supplement_fits b second book fits.1).rule.size)

-- a question's formulas besides that of its code, and its goal, take no more variables than its size
connectives_size : (b : Contents) (q : SupplementQuestion) → variables_of (map free_item (other_own b q)) + 1 ≤ question_size b q
connectives_size b (Breaks place) = omega (arith, connectives_kept (rule_at b place).rule)
connectives_size b (Swaps first second) =
    let s : Supplement = rule_at b first in
    let t : Supplement = rule_at b second in
    omega (arith, connectives_kept s.rule, connectives_kept t.rule, present_kept s.code t.rule, present_kept t.code s.rule)

formulas_size : (b : Contents) (q : SupplementQuestion) → other_variables b q + 1 ≤ question_size b q
formulas_size b q = omega (arith, taken_by_most (map free_item (other_own b q)), connectives_size b q)

taken_by_both : (fs gs : List Rule) → taken_by (map free_item (fs ++ gs)) ≡ taken_by (map free_item fs) + taken_by (map free_item gs)
taken_by_both fs gs = ap taken_by (map-append free_item fs gs) ∙ taken_by-append (map free_item fs) (map free_item gs)

pub other_first : (b : Contents) (q : SupplementQuestion) (qs : List SupplementQuestion)
    → taken_by (map free_item (all_other b (q ∷ qs))) ≡ other_variables b q + taken_by (map free_item (all_other b qs))
other_first b q qs = taken_by_both (other_own b q) (all_other b qs)

all_other_size : (b : Contents) (qs : List SupplementQuestion) → taken_by (map free_item (all_other b qs)) + length qs ≤ sum_by (question_size b) qs
all_other_size b [] = omega arith
all_other_size b (q ∷ qs) = omega (arith, other_first b q qs, formulas_size b q, all_other_size b qs, sum_by-cons (question_size b) q qs)

pub shared_first : (b : Contents) (day : ℕ) (codes : List ℕ) (qs : List SupplementQuestion)
    → taken_by (map free_item (shared_rules b day codes qs)) ≡ unbroken_taken b day codes + taken_by (map free_item (all_other b qs))
shared_first b day codes qs = taken_by_both (unbroken_rules b day codes) (all_other b qs)

-- all of some rules take as many variables as these, and one more for each but the first
and_all_size : (f : Rule) (gs : List Rule) → connectives (and_all f gs) ≡ connectives f + variables_of (map free_item gs) + length gs
and_all_size f [] = omega arith
and_all_size f (g ∷ gs) = and_all_size (both f g) gs ∙ omega arith

all_rule_most : (fs : List Rule) → connectives (all_rule fs) ≤ variables_of (map free_item fs) + length fs
all_rule_most [] = omega arith
all_rule_most (f ∷ fs) = omega (arith, and_all_size f fs)

all_rule_least : (fs : List Rule) → variables_of (map free_item fs) ≤ connectives (all_rule fs)
all_rule_least [] = omega arith
all_rule_least (f ∷ fs) = omega (arith, and_all_size f fs)

read_size : (b : Contents) (day c : ℕ) (codes : List ℕ) → list_any (λ k. eqb k c) codes ≡ true → connectives (unbroken b day c) ≤ unbroken_variables b day codes
read_size b day c [] there = absurd (false≢true there)
read_size b day c (k ∷ codes) there =
    elim (cases_Bool (eqb k c)) [
      | inl same ↦ omega (arith, ap (λ (n : ℕ). connectives (unbroken b day n)) (eqb-true k c same))
      | inr apart ↦ omega (arith, read_size b day c codes (rw apart at there))
    ]

own_size : (b : Contents) (day : ℕ) (codes : List ℕ) (q : SupplementQuestion) → IsRead b codes q → own_variables b day q + 1 ≤ unbroken_variables b day codes + question_size b q
own_size b day codes (Breaks place) read =
    let s : Supplement = rule_at b place in
    omega (arith, connectives_kept s.rule, all_rule_least (afters b day s.code), read_size b day s.code codes read)
own_size b day codes (Swaps first second) read = let few : own_variables b day (Swaps first second) + 1 ≤ question_size b (Swaps first second) = connectives_size b (Swaps first second) in omega (arith, few)

-- several questions take no more variables than each connective would
together_first : (b : Contents) (day : ℕ) (codes : List ℕ) (qs : List SupplementQuestion)
    → together_start b day codes qs ≡ shared_start b day + taken_by (map free_item (shared_rules b day codes qs))
together_first b day codes qs =
    let split = taken_by-append (construct_items b day) (map free_item (shared_rules b day codes qs)) in
    let is : together_start b day codes qs ≡ shared_start b day + taken_by (map free_item (shared_rules b day codes qs)) = omega (arith, split) in
    is

together_size : (b : Contents) (day : ℕ) (codes : List ℕ) (qs : List SupplementQuestion)
    → together_variables b day codes qs ≤ construct_variables b day + unbroken_variables b day codes + sum_by (question_size b) qs
together_size b day codes qs =
    let split = taken_by-append (construct_items b day) (map free_item (shared_rules b day codes qs)) in
    omega (
      arith,
      split,
      shared_first b day codes qs,
      all_other_size b qs,
      taken_by_most (construct_items b day),
      taken_by_most (map free_item (unbroken_rules b day codes)),
    )

alone_size : (b : Contents) (day : ℕ) (codes : List ℕ) (q : SupplementQuestion) → IsRead b codes q
    → question_variables b day q ≤ construct_variables b day + unbroken_variables b day codes + sum_by (question_size b) (q ∷ [])
alone_size b day codes q read =
    omega (arith, variables_of-append (construct_items b day) (map free_item (own b day q)), own_size b day codes q read, sum_by-cons (question_size b) q [])

pub asked_size : (b : Contents) (day : ℕ) (codes : List ℕ) (qs : List SupplementQuestion) → AllByRecursion (IsPosed b day codes) qs
    → questions_variables b day codes qs ≤ construct_variables b day + unbroken_variables b day codes + sum_by (question_size b) qs
asked_size b day codes [] posed = together_size b day codes []
asked_size b day codes (q ∷ []) posed = alone_size b day codes q posed.0.read
asked_size b day codes (p ∷ q ∷ qs) posed = together_size b day codes (p ∷ q ∷ qs)

-- what is asked of the sets with codes takes few variables for each rule that they touch
pub unbroken_few : (b : Contents) (day : ℕ) (codes : List ℕ) → IsBook b → unbroken_variables b day codes ≤ 514 * sum_by (touch_count b) codes
unbroken_few b day [] book = omega arith
unbroken_few b day (c ∷ codes) book =
    omega (
      arith,
      all_rule_most (afters b day c),
      asked_few (length b.codes) c (filter (is_touched day c) b.constructs) (all_filtered (ConstructFits (length b.codes)) (is_touched day c) b.constructs (constructs_fit b book)),
      length-map (filter (is_touched day c) b.constructs) (λ (r : Construct). after c r.demand),
      rules_few c day 0 b.constructs,
      unbroken_few b day codes book,
      sum_by-cons (touch_count b) c codes,
    )

pub constructs_size : (b : Contents) (day : ℕ) → IsBook b → variables_of (construct_items b day) ≤ 512 * 11000
constructs_size b day book =
    omega (
      arith,
      variables_below (λ (c : Construct). is_within c.from c.until day) construct_item b.constructs
          (all_weaker (ConstructFits (length b.codes)) (λ c. connectives (construct_item c).rule ≤ 512) (λ c h. demand_item_below (length b.codes) c.demand h.demand) b.constructs (constructs_fit b book)),
      constructs_below b book,
    )

pub constructs_room : (b : Contents) (day next : ℕ) → IsBook b → next ≡ length b.codes + 1 → next + variables_of (construct_items b day) < 4294967296
constructs_room b day next book is = omega (arith, constructs_size b day book, book.codes_limit)

pub wide_constructs_room : (b : Contents) (day next : ℕ) → IsBook b → next ≡ length b.codes + 1 → next + taken_by (construct_items b day) < 4294967296
wide_constructs_room b day next book is = omega (arith, constructs_room b day next book is, taken_by_most (construct_items b day))

-- there is room for the formulas and goals of questions whose variables can be numbered
pub own_room : (b : Contents) (day next : ℕ) (q : SupplementQuestion) → question_variables b day q < 4294967296 → next ≡ construct_variables b day
    → next + own_variables b day q + 1 < 4294967296
own_room b day next q room is = omega (arith, room, is, variables_of-append (construct_items b day) (map free_item (own b day q)))

pub shared_room : (b : Contents) (day next : ℕ) (codes : List ℕ) (qs : List SupplementQuestion) → together_variables b day codes qs < 4294967296 → next ≡ shared_start b day
    → next + unbroken_taken b day codes + taken_by (map free_item (all_other b qs)) + length qs < 4294967296
shared_room b day next codes qs room is = omega (arith, room, is, taken_by-append (construct_items b day) (map free_item (shared_rules b day codes qs)), shared_first b day codes qs)

-- The literals of a question are below a bound.
abbrev PartsBelow : ℕ → List (List ℕ) → Type 0
PartsBelow m parts = AllByRecursion (λ ls. AllByRecursion (λ l. l < 2 * m) ls) parts

abbrev LitsBelow : ℕ → QuestionLits → Type 0
LitsBelow m lits = PartsBelow m (goal_parts lits)

complements_below : (m : ℕ) (ls : List ℕ) → AllByRecursion (λ l. l < 2 * m) ls → AllByRecursion (λ l. l < 2 * m) (map complement ls)
complements_below m [] h = tt
complements_below m (l ∷ ls) h = (complement_below l m h.0, complements_below m ls h.1)

breaks_below : (m rule added : ℕ) (afterwards : List ℕ) → rule < 2 * m → added < m → AllByRecursion (λ l. l < 2 * m) afterwards → LitsBelow m (BreaksLits rule added afterwards)
breaks_below m rule added afterwards one inside rest = ((one, tt), ((negative_below added m inside, tt), (complements_below m afterwards rest, tt)))

swaps_below : (m f c g d h k : ℕ) → AllByRecursion (λ l. l < 2 * m) (f ∷ g ∷ h ∷ k ∷ []) → c < m → d < m → LitsBelow m (SwapsLits f c g d h k)
swaps_below m f c g d h k all first second =
    ((all.0, tt), ((negative_below c m first, tt), ((all.1.0, tt), ((negative_below d m second, tt), ((complement_below h m all.1.1.0, (complement_below k m all.1.1.1.0, tt)), tt)))))

literals_below : (n v m : ℕ) (fs : List Rule) → AllBelow n fs → n < v → v + variables_of (map free_item fs) ≤ m → AllByRecursion (λ l. l < 2 * m) (literals_from n v fs)
literals_below n v m [] below less room = tt
literals_below n v m (f ∷ fs) below less room =
    (literal_below n n v m f below.0 (omega arith) less (omega arith), literals_below n (v + connectives f) m fs below.1 (omega arith) (omega arith))

lits_below : (b : Contents) (day v m : ℕ) (q : SupplementQuestion) → IsBook b → QuestionFits b q → length b.codes < v → v + own_variables b day q ≤ m → LitsBelow m (question_lits b day v q)
lits_below b day v m (Breaks place) book fits less room =
    let n : ℕ = length b.codes in
    let below = own_below b day (Breaks place) book fits in
    let s : Supplement = rule_at b place in
    let fit = supplement_fits b place book fits in
    breaks_below m _ s.code _ (literal_below n n v m s.rule below.0 (omega arith) less (omega arith)) (omega (arith, fit.code)) (literals_below n (v + connectives s.rule) m (afters b day s.code) below.1 (omega arith) (omega arith))
lits_below b day v m (Swaps first second) book fits less room =
    let n : ℕ = length b.codes in
    let below = own_below b day (Swaps first second) book fits in
    let s : Supplement = rule_at b first in
    let t : Supplement = rule_at b second in
    let fit_s = supplement_fits b first book fits.0 in
    let fit_t = supplement_fits b second book fits.1 in
    swaps_below m _ s.code _ t.code _ _ (literals_below n v m (swaps_own s t) below less room) (omega (arith, fit_s.code)) (omega (arith, fit_t.code))

parts_below : (m w : ℕ) (parts : List (List ℕ)) → w < m → PartsBelow m parts → AreBelow (2 * m) (map (λ ls. clause_of (literal w false ∷ ls)) parts)
parts_below m w [] less h = tt
parts_below m w (ls ∷ parts) less h = (IsBelow-clause_of (2 * m) (literal w false ∷ ls) (negative_below w m less, h.0), parts_below m w parts less h.1)

literal_with_below : (m : ℕ) (codes lits : List ℕ) (c : ℕ) → 0 < m → AllByRecursion (λ l. l < 2 * m) lits → literal_with codes lits c < 2 * m
literal_with_below m [] lits c some below = omega (arith, some)
literal_with_below m (k ∷ codes) [] c some below = omega (arith, some)
literal_with_below m (k ∷ codes) (l ∷ lits) c some below =
    cond_both (eqb k c) _ _ (λ (n : ℕ). n < 2 * m) (λ _. below.0) (λ _. literal_with_below m codes lits c some below.1)

other_lits_below : (b : Contents) (codes known : List ℕ) (v m : ℕ) (q : SupplementQuestion) → IsBook b → QuestionFits b q → AllByRecursion (λ l. l < 2 * m) known → length b.codes < v
    → v + other_variables b q ≤ m → LitsBelow m (other_lits b codes known v q)
other_lits_below b codes known v m (Breaks place) book fits below less room =
    let n : ℕ = length b.codes in
    let s : Supplement = rule_at b place in
    let fit = supplement_fits b place book fits in
    let read : AllByRecursion (λ l. l < 2 * m) (literal_with codes known s.code ∷ []) = (literal_with_below m codes known s.code (omega arith) below, tt) in
    breaks_below m _ s.code (literal_with codes known s.code ∷ []) (wide_literal_below n n m v s.rule fit.rule.in_range (omega arith) less (omega arith)) (omega (arith, fit.code)) read
other_lits_below b codes known v m (Swaps first second) book fits below less room =
    let n : ℕ = length b.codes in
    let fit_s = supplement_fits b first book fits.0 in
    let fit_t = supplement_fits b second book fits.1 in
    swaps_below m _ (rule_at b first).code _ (rule_at b second).code _ _ (wide_literals_below n n m v (other_own b (Swaps first second)) (other_below b (Swaps first second) book fits) (omega arith) less room)
    (omega (arith, fit_s.code)) (omega (arith, fit_t.code))

all_other_lits_below : (b : Contents) (codes known : List ℕ) (v m : ℕ) (qs : List SupplementQuestion) → IsBook b → AllByRecursion (QuestionFits b) qs → AllByRecursion (λ l. l < 2 * m) known
    → length b.codes < v → v + taken_by (map free_item (all_other b qs)) ≤ m → AllByRecursion (LitsBelow m) (all_other_lits b codes known v qs)
all_other_lits_below b codes known v m [] book fits below less room = tt
all_other_lits_below b codes known v m (q ∷ qs) book fits below less room =
    let split = other_first b q qs in (
      other_lits_below b codes known v m q book fits.0 below less (omega (arith, split)),
      all_other_lits_below b codes known (v + other_variables b q) m qs book fits.1 below (omega arith) (omega (arith, split)),
    )

shared_lits_below : (b : Contents) (day v m : ℕ) (codes : List ℕ) (qs : List SupplementQuestion) → IsBook b → AllByRecursion (QuestionFits b) qs → length b.codes < v
    → v + taken_by (map free_item (shared_rules b day codes qs)) ≤ m → AllByRecursion (LitsBelow m) (shared_lits b day codes v qs)
shared_lits_below b day v m codes qs book fits less room =
    let n : ℕ = length b.codes in
    let split = shared_first b day codes qs in
    all_other_lits_below b codes (wide_literals n v (unbroken_rules b day codes)) (v + unbroken_taken b day codes) m qs book fits
    (wide_literals_below n n m v (unbroken_rules b day codes) (unbroken_below b day codes book) (omega arith) less (omega (arith, split, room))) (omega arith) (omega (arith, split, room))

goals_below : (w m : ℕ) (lits : List QuestionLits) → AllByRecursion (LitsBelow m) lits → w + length lits ≤ m → AreBelow (2 * m) (all_goal_clauses w lits)
goals_below w m [] below room = tt
goals_below w m (l ∷ lits) below room =
    all-append _ (goal_clauses w l) _ (parts_below m w (goal_parts l) (omega arith) below.0) (goals_below (w + 1) m lits below.1 (omega arith))

length-all_other_lits : (b : Contents) (codes known : List ℕ) (v : ℕ) (qs : List SupplementQuestion) → length (all_other_lits b codes known v qs) ≡ length qs
length-all_other_lits b codes known v [] = refl
length-all_other_lits b codes known v (q ∷ qs) = ap suc (length-all_other_lits b codes known (v + other_variables b q) qs)

pub length-shared_lits : (b : Contents) (day v : ℕ) (codes : List ℕ) (qs : List SupplementQuestion) → length (shared_lits b day codes v qs) ≡ length qs
length-shared_lits b day v codes qs = length-all_other_lits b codes (wide_literals (length b.codes) v (unbroken_rules b day codes)) (v + unbroken_taken b day codes) qs

alone_below : (b : Contents) (day : ℕ) (q : SupplementQuestion) → IsBook b → QuestionFits b q → AreBelow (2 * question_variables b day q) (question_clauses b day q)
alone_below b day q book fits =
    let n : ℕ = length b.codes in
    let m : ℕ = question_variables b day q in
    let rules : List Rule = own b day q in
    let split = variables_of-append (construct_items b day) (map free_item rules) in
    all-append _ (encoded_items n (n + 1) (asked_items b day rules)) _
    (IsBelow-clause_of (2 * m) (literal n true ∷ []) (positive_below n m (omega arith), tt), items_below n n (n + 1) m (asked_items b day rules) (asked_fit b day rules book (own_below b day q book fits)) (omega arith) (omega arith) (omega arith))
    (goals_below (goals_start b day rules) m (question_lits b day (construct_variables b day) q ∷ []) (lits_below b day (construct_variables b day) m q book fits (omega arith) (omega (arith, split)), tt) (omega arith))

together_below : (b : Contents) (day : ℕ) (codes : List ℕ) (qs : List SupplementQuestion) → IsBook b → AllByRecursion (QuestionFits b) qs
    → AreBelow (2 * together_variables b day codes qs) (together_clauses b day codes qs)
together_below b day codes qs book fits =
    let n : ℕ = length b.codes in
    let m : ℕ = together_variables b day codes qs in
    let is : List Item = together_items b day codes qs in
    let lits : List QuestionLits = shared_lits b day codes (shared_start b day) qs in
    let first = together_first b day codes qs in
    let count : length lits ≡ length qs = length-shared_lits b day (shared_start b day) codes qs in
    all-append _ (wide_items n is) _
    (IsBelow-clause_of (2 * m) (literal n true ∷ []) (positive_below n m (omega arith), tt), wide_items_below n n m (n + 1) is (asked_fit b day (shared_rules b day codes qs) book (shared_below b day codes qs book fits)) (omega arith) (omega arith) (omega arith))
    (goals_below (together_start b day codes qs) m lits (shared_lits_below b day (shared_start b day) m codes qs book fits (omega arith) (omega (arith, first))) (omega (arith, count)))

pub clauses_below : (b : Contents) (day : ℕ) (codes : List ℕ) (qs : List SupplementQuestion) → IsBook b → AllByRecursion (QuestionFits b) qs
    → AreBelow (2 * questions_variables b day codes qs) (questions_clauses b day codes qs)
clauses_below b day codes [] book fits = together_below b day codes [] book fits
clauses_below b day codes (q ∷ []) book fits = alone_below b day q book fits.0
clauses_below b day codes (p ∷ q ∷ qs) book fits = together_below b day codes (p ∷ q ∷ qs) book fits
