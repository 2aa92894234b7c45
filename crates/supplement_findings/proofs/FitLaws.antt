-- The formulas of questions speak of the book's codes.
use Rattle.std.proofs.Common.{inl, inr, ◌≡◌, ℕ, ◌<◌, true, not, ◌&&◌, eqb, ltb, List, [], ◌∷◌, None, Some, length, map, refl, ap, ◌∙◌, All}
use Rattle.std.specs.List.{filter, AllByRecursion}
use Rattle.std.proofs.lemmas.Bool.{and_from, cases_Bool, cond-true, cond-false, lt-ltb}
use Rattle.std.proofs.lemmas.List.Elements.{recursion_from_All, All-get_or}
use Rattle.pb_base.specs.Leaves.{with_present}
use Rattle.pb_base.specs.Rule.{Rule, code, negation, both, either, codes_below}
use Rattle.pb_base.proofs.LeafLaws.{codes_below-with_present}
use Rattle.book_model.specs.Activity.{is_within}
use Rattle.book_model.specs.Book.{IsBook, SupplementFits, ConstructFits, DemandFits}
use Rattle.book_model.specs.Contents.{Contents}
use Rattle.book_model.specs.declared.demand.Demand.{Demand}
use Rattle.book_model.specs.declared.demand.Demand.TheVariants as demand
use Rattle.book_model.specs.declared.record.Construct.{Construct}
use Rattle.book_model.specs.declared.record.Supplement.{Supplement}
use Rattle.clausify.specs.Questions.{and_none, none_rule}
use Rattle.clausify.proofs.ListLaws.{all-append, all-map, all_filtered, all_weaker}
use Rattle.clausify.proofs.ItemLaws.{AllBelow}
use Rattle.supplement_findings.specs.Clauses.{own, and_all, all_rule, unbroken_rules, other_own, all_other, shared_rules}
use Rattle.supplement_findings.specs.Questions.{no_rule, rule_at, QuestionFits}
use Rattle.supplement_findings.specs.Touching.{touches, no_other, after, touched, afters}
use Rattle.supplement_findings.specs.declared.question.SupplementQuestion.{SupplementQuestion}
use Rattle.supplement_findings.specs.declared.question.SupplementQuestion.TheVariants.{Breaks, Swaps}

pub supplement_fits : (b : Contents) (place : ℕ) → IsBook b → place < length b.supplements → SupplementFits (length b.codes) (rule_at b place)
supplement_fits b place book within = All-get_or (SupplementFits (length b.codes)) b.supplements place no_rule within book.supplements_fit

below-and_none : (n : ℕ) (f : Rule) (gs : List Rule) → codes_below n f ≡ true → AllBelow n gs → codes_below n (and_none f gs) ≡ true
below-and_none n f [] h hs = h
below-and_none n f (g ∷ gs) h hs = below-and_none n (both f (negation g)) gs (and_from _ _ h hs.0) hs.1

below-none_rule : (n : ℕ) (gs : List Rule) → AllBelow n gs → codes_below n (none_rule gs) ≡ true
below-none_rule n [] hs = refl
below-none_rule n (g ∷ gs) hs = below-and_none n (negation g) gs hs.0 hs.1

below_no_other : (n c : ℕ) (group : List ℕ) → All (λ (k : ℕ). k < n) group → codes_below n (no_other c group) ≡ true
below_no_other n c group h =
    below-none_rule n (map code (filter (λ k. not (eqb k c)) group))
    (all-map (λ (f : Rule). codes_below n f ≡ true) code (filter (λ k. not (eqb k c)) group)
    (all_filtered (λ (k : ℕ). ltb k n ≡ true) (λ k. not (eqb k c)) group
    (all_weaker (λ (k : ℕ). k < n) (λ (k : ℕ). ltb k n ≡ true) (λ k less. lt-ltb k n less) group (recursion_from_All (λ (k : ℕ). k < n) group h))))

below_after : (n c : ℕ) (d : Demand) → DemandFits n d → codes_below n (after c d) ≡ true
below_after n c (demand.Rule None f) h = codes_below-with_present n c f h.rule.in_range
below_after n c (demand.Rule (Some on) f) h =
    let inside : codes_below n (with_present c f) ≡ true = codes_below-with_present n c f h.rule.in_range in
    elim (cases_Bool (eqb on c)) [
      | inl here ↦ rw here inside
      | inr apart ↦ rw apart (and_from _ _ (lt-ltb on n h.on) inside)
    ]
below_after n c (demand.One group) h = below_no_other n c group h.in_range
below_after n c (demand.Most group) h = below_no_other n c group h.in_range

pub constructs_fit : (b : Contents) → IsBook b → AllByRecursion (ConstructFits (length b.codes)) b.constructs
constructs_fit b book = recursion_from_All (ConstructFits (length b.codes)) b.constructs book.constructs_fit

below_afters : (b : Contents) (day c : ℕ) → IsBook b → AllBelow (length b.codes) (afters b day c)
below_afters b day c book =
    let n : ℕ = length b.codes in
    all-map (λ (f : Rule). codes_below n f ≡ true) (λ (r : Construct). after c r.demand) (touched b day c)
    (all_filtered (λ (r : Construct). codes_below n (after c r.demand) ≡ true) (λ (r : Construct). is_within r.from r.until day && touches c r.demand) b.constructs
    (all_weaker (ConstructFits n) (λ (r : Construct). codes_below n (after c r.demand) ≡ true) (λ r fits. below_after n c r.demand fits.demand) b.constructs (constructs_fit b book)))

pub own_below : (b : Contents) (day : ℕ) (q : SupplementQuestion) → IsBook b → QuestionFits b q → AllBelow (length b.codes) (own b day q)
own_below b day (Breaks place) book fits =
    let s : Supplement = rule_at b place in ((supplement_fits b place book fits).rule.in_range, below_afters b day s.code book)
own_below b day (Swaps first second) book fits =
    let n : ℕ = length b.codes in
    let s : Supplement = rule_at b first in
    let t : Supplement = rule_at b second in
    let below_s : codes_below n s.rule ≡ true = (supplement_fits b first book fits.0).rule.in_range in
    let below_t : codes_below n t.rule ≡ true = (supplement_fits b second book fits.1).rule.in_range in
    (below_s, (below_t, (codes_below-with_present n s.code t.rule below_t, (codes_below-with_present n t.code s.rule below_s, tt))))

below_and_all : (n : ℕ) (f : Rule) (gs : List Rule) → codes_below n f ≡ true → AllBelow n gs → codes_below n (and_all f gs) ≡ true
below_and_all n f [] h hs = h
below_and_all n f (g ∷ gs) h hs = below_and_all n (both f g) gs (and_from _ _ h hs.0) hs.1

below_all_rule : (n : ℕ) (fs : List Rule) → AllBelow n fs → codes_below n (all_rule fs) ≡ true
below_all_rule n [] hs = refl
below_all_rule n (f ∷ fs) hs = below_and_all n f fs hs.0 hs.1

pub unbroken_below : (b : Contents) (day : ℕ) (codes : List ℕ) → IsBook b → AllBelow (length b.codes) (unbroken_rules b day codes)
unbroken_below b day [] book = tt
unbroken_below b day (c ∷ codes) book = (below_all_rule (length b.codes) (afters b day c) (below_afters b day c book), unbroken_below b day codes book)

pub other_below : (b : Contents) (q : SupplementQuestion) → IsBook b → QuestionFits b q → AllBelow (length b.codes) (other_own b q)
other_below b (Breaks place) book fits = ((supplement_fits b place book fits).rule.in_range, tt)
other_below b (Swaps first second) book fits = own_below b 0 (Swaps first second) book fits

all_other_below : (b : Contents) (qs : List SupplementQuestion) → IsBook b → AllByRecursion (QuestionFits b) qs → AllBelow (length b.codes) (all_other b qs)
all_other_below b [] book fits = tt
all_other_below b (q ∷ qs) book fits =
    all-append (λ (f : Rule). codes_below (length b.codes) f ≡ true) (other_own b q) (all_other b qs) (other_below b q book fits.0) (all_other_below b qs book fits.1)

pub shared_below : (b : Contents) (day : ℕ) (codes : List ℕ) (qs : List SupplementQuestion) → IsBook b → AllByRecursion (QuestionFits b) qs → AllBelow (length b.codes) (shared_rules b day codes qs)
shared_below b day codes qs book fits =
    all-append (λ (f : Rule). codes_below (length b.codes) f ≡ true) (unbroken_rules b day codes) (all_other b qs) (unbroken_below b day codes book) (all_other_below b qs book fits)
