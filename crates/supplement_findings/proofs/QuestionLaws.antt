-- What the questions on supplementing rules leave out shows nothing, and where none of them is shown by a set, a day is calm.
use Rattle.std.proofs.Common.{inl, inr, ◌≡◌, ℕ, zero, suc, ◌+◌, ◌≤◌, ◌<◌, Bool, true, false, not, ◌&&◌, ◌||◌, ◌⊎◌, eqb, List, [], ◌∷◌, length, drop, get_or, get_or-drop, length-drop, refl, sym, ap, subst, ◌∙◌, arith}
use Rattle.std.proofs.Math.Bool.{and_comm, or_comm}
use Rattle.std.specs.Prelude.{All, Contains}
use Rattle.std.specs.List.{filter, AllByRecursion}
use Rattle.std.proofs.lemmas.Bool.{and_parts, and_from, or_parts, cases_Bool, cases_order, cond-true, cond-false, false_from_ne_true, not_from_false, not-true, eqb-true, ne_eqb, eqb-false, true≢false, false≢true}
use Rattle.std.proofs.lemmas.Option.{slice_get_read, get_or_from_slice_get}
use Rattle.std.proofs.lemmas.List.Elements.{All-from_recursion, All-get_or, Contains-get_or}
use Rattle.pb_base.specs.Rule.{holds}
use Rattle.book_model.specs.Contents.{Contents}
use Rattle.book_model.specs.Good.{fires, is_constructible}
use Rattle.book_model.specs.Slices.{AreAlike}
use Rattle.book_model.specs.declared.record.Supplement.{Supplement}
use Rattle.book_model.proofs.DaysAlike.{constructible_alike, fires_alike}
use Rattle.clausify.proofs.ListLaws.{all-append, all_first, all_last, all_filtered}
use Rattle.supplement.specs.Occurrences.{occurs}
use Rattle.supplement.proofs.OccurrenceLemmas.{holds-set}
use Rattle.supplement_findings.specs.Counting.{pairs_at}
use Rattle.supplement_findings.specs.Ends.{with_code, breaks_with, swaps_with, IsCalm}
use Rattle.supplement_findings.specs.Questions.{no_rule, rule_at, is_active, is_asked, breaks_from, swaps_with_later, swaps_from, all_questions, is_put, questions, meets, QuestionFits}
use Rattle.supplement_findings.specs.declared.question.SupplementQuestion.{SupplementQuestion}
use Rattle.supplement_findings.specs.declared.question.SupplementQuestion.TheVariants.{Breaks, Swaps}
use Rattle.supplement_findings.proofs.EndLaws.{fires_over}

-- what it is that a rule breaks a set, and that two swap over one
pub record BreaksOver (b : Contents) (day : ℕ) (s : Supplement) (x : List Bool) : Type 0 where
  pub built : is_constructible b day x ≡ true
  pub on : fires day x s ≡ true
  pub broken : is_constructible b day (with_code s.code x) ≡ false

pub breaks_over : (b : Contents) (day : ℕ) (s : Supplement) (x : List Bool) → breaks_with b day s x ≡ true → BreaksOver b day s x
breaks_over b day s x h =
    let outer = and_parts (is_constructible b day x && fires day x s) (not (is_constructible b day (with_code s.code x))) h in
    let inner = and_parts (is_constructible b day x) (fires day x s) outer.0 in
    record { built = inner.0; on = inner.1; broken = not-true _ outer.1 }

pub record SwapsOver (b : Contents) (day : ℕ) (s t : Supplement) (x : List Bool) : Type 0 where
  pub built : is_constructible b day x ≡ true
  pub on_first : fires day x s ≡ true
  pub on_second : fires day x t ≡ true
  pub apart : s.code ≡ t.code → ⊥
  pub lost : (holds t.rule (with_code s.code x) && holds s.rule (with_code t.code x)) ≡ false

pub swaps_over : (b : Contents) (day : ℕ) (s t : Supplement) (x : List Bool) → swaps_with b day s t x ≡ true → SwapsOver b day s t x
swaps_over b day s t x h =
    let p = and_parts (is_constructible b day x && fires day x s && fires day x t && not (eqb s.code t.code)) (not (holds t.rule (with_code s.code x) && holds s.rule (with_code t.code x))) h in
    let q = and_parts (is_constructible b day x && fires day x s && fires day x t) (not (eqb s.code t.code)) p.0 in
    let r = and_parts (is_constructible b day x && fires day x s) (fires day x t) q.0 in
    let u = and_parts (is_constructible b day x) (fires day x s) r.0 in
    record { built = u.0; on_first = u.1; on_second = r.1; apart = eqb-false s.code t.code (not-true _ q.1); lost = not-true _ p.1 }

pub over_swaps : (b : Contents) (day : ℕ) (s t : Supplement) (x : List Bool) → SwapsOver b day s t x → swaps_with b day s t x ≡ true
over_swaps b day s t x h =
    and_from _ _ (and_from _ _ (and_from _ _ (and_from _ _ h.built h.on_first) h.on_second) (not_from_false _ (ne_eqb s.code t.code h.apart))) (not_from_false _ h.lost)

pub swapped_over : (b : Contents) (day : ℕ) (s t : Supplement) (x : List Bool) → SwapsOver b day s t x → SwapsOver b day t s x
swapped_over b day s t x h = record {
  built = h.built;
  on_first = h.on_second;
  on_second = h.on_first;
  apart = λ e. h.apart (sym e);
  lost = rw and_comm h.lost;
}

-- a pair that is not asked never swaps
unasked_cases : (same reads : Bool) → (not same && reads) ≡ false → (same ≡ true) ⊎ (reads ≡ false)
unasked_cases true reads h = inl refl
unasked_cases false reads h = inr h

pub unasked_law : (b : Contents) (day : ℕ) (s t : Supplement) (x : List Bool) → is_asked s t ≡ false → swaps_with b day s t x ≡ false
unasked_law b day s t x h = false_from_ne_true _ (λ e.
    let over = swaps_over b day s t x e in
    elim (unasked_cases (eqb s.code t.code) (occurs s.code t.rule || occurs t.code s.rule) h) [
      | inl same ↦ over.apart (eqb-true s.code t.code same)
      | inr unread ↦
          let parts = or_parts (occurs s.code t.rule) (occurs t.code s.rule) unread in
          let stays_t : holds t.rule (with_code s.code x) ≡ true = holds-set t.rule x s.code parts.0 ∙ (fires_over day x t over.on_second).true_rule in
          let stays_s : holds s.rule (with_code t.code x) ≡ true = holds-set s.rule x t.code parts.1 ∙ (fires_over day x s over.on_first).true_rule in
          true≢false (sym (and_from _ _ stays_t stays_s) ∙ over.lost)
    ])

asked_swapped : (s t : Supplement) → is_asked s t ≡ true → is_asked t s ≡ true
asked_swapped s t h =
    let parts = and_parts (not (eqb s.code t.code)) (occurs s.code t.rule || occurs t.code s.rule) h in
    and_from _ _ (not_from_false _ (ne_eqb t.code s.code (λ e. eqb-false s.code t.code (not-true _ parts.0) (sym e))))
    (rw or_comm parts.1)

-- what holds of the questions that are put
from_filter : {X : Type 0} (P : X → Type 0) (w : X → Bool) (xs : List X) → AllByRecursion P (filter w xs) → AllByRecursion (λ x. w x ≡ true → P x) xs
from_filter P w [] h = tt
from_filter {X} P w (x ∷ xs) h = elim (cases_Bool (w x)) [
  | inl put ↦ let both = rw put at h in ((λ e. both.0), from_filter P w xs both.1)
  | inr left ↦ ((λ e. absurd (false≢true (sym left ∙ e))), from_filter P w xs (rw left at h))
]

-- each rule has its question, and each pair that is asked
at_breaks : (P : SupplementQuestion → Type 0) (i : ℕ) (ss : List Supplement) → AllByRecursion P (breaks_from i ss) → (k : ℕ) → k < length ss → P (Breaks (i + k))
at_breaks P i [] h k within = absurd (omega arith)
at_breaks P i (s ∷ ss) h zero within = subst (λ (n : ℕ). P (Breaks n)) (let e : i ≡ i + zero = omega arith in e) h.0
at_breaks P i (s ∷ ss) h (suc k) within = subst (λ (n : ℕ). P (Breaks n)) (let e : suc i + k ≡ i + suc k = omega arith in e) (at_breaks P (suc i) ss h.1 k (omega arith))

at_swaps_later : (P : SupplementQuestion → Type 0) (i : ℕ) (s : Supplement) (first : ℕ) (ts : List Supplement) (d : Supplement) → AllByRecursion P (swaps_with_later i s first ts)
    → (k : ℕ) → k < length ts → is_asked s (get_or ts k d) ≡ true → P (Swaps i (first + k))
at_swaps_later P i s first [] d h k within asked = absurd (omega arith)
at_swaps_later P i s first (t ∷ ts) d h zero within asked =
    let all = rw asked at h in
    subst (λ (n : ℕ). P (Swaps i n)) (let e : first ≡ first + zero = omega arith in e) all.0
at_swaps_later P i s first (t ∷ ts) d h (suc k) within asked =
    let rest : AllByRecursion P (swaps_with_later i s (suc first) ts) = elim (cases_Bool (is_asked s t)) [
      | inl put ↦ (let all = rw put at h in all.1)
      | inr left ↦ rw left at h
    ] in
    subst (λ (n : ℕ). P (Swaps i n)) (let e : suc first + k ≡ first + suc k = omega arith in e) (at_swaps_later P i s (suc first) ts d rest k (omega arith) asked)

at_swaps : (P : SupplementQuestion → Type 0) (i : ℕ) (ss : List Supplement) (d : Supplement) → AllByRecursion P (swaps_from i ss)
    → (j k : ℕ) → j < k → k < length ss → is_asked (get_or ss j d) (get_or ss k d) ≡ true → P (Swaps (i + j) (i + k))
at_swaps P i [] d h j k before within asked = absurd (omega arith)
at_swaps P i (s ∷ ss) d h j zero before within asked = absurd (omega arith)
at_swaps P i (s ∷ ss) d h zero (suc k) before within asked =
    let own : AllByRecursion P (swaps_with_later i s (suc i) ss) = all_first P (swaps_with_later i s (suc i) ss) (swaps_from (suc i) ss) h in
    subst (λ (n : ℕ). P (Swaps n (i + suc k))) (let e : i ≡ i + zero = omega arith in e)
    (subst (λ (n : ℕ). P (Swaps i n)) (let e : suc i + k ≡ i + suc k = omega arith in e) (at_swaps_later P i s (suc i) ss d own k (omega arith) asked))
at_swaps P i (s ∷ ss) d h (suc j) (suc k) before within asked =
    let later : AllByRecursion P (swaps_from (suc i) ss) = all_last P (swaps_with_later i s (suc i) ss) (swaps_from (suc i) ss) h in
    subst (λ (n : ℕ). P (Swaps n (i + suc k))) (let e : suc i + j ≡ i + suc j = omega arith in e)
    (subst (λ (n : ℕ). P (Swaps (suc i + j) n)) (let e : suc i + k ≡ i + suc k = omega arith in e) (at_swaps P (suc i) ss d later j k (omega arith) (omega arith) asked))

-- the rule of a place
pub at_place : (b : Contents) (s : Supplement) (there : Contains b.supplements s) → rule_at b there.0 ≡ s
at_place b s there = get_or_from_slice_get b.supplements there.0 s no_rule (slice_get_read b.supplements (length b.supplements) there.0 s refl there.1 (sym there.2))

pub at_0 : (P : SupplementQuestion → Type 0) (k : ℕ) → P (Breaks (0 + k)) → P (Breaks k)
at_0 P k h = subst (λ (n : ℕ). P (Breaks n)) (let e : 0 + k ≡ k = omega arith in e) h

at_0_0 : (P : SupplementQuestion → Type 0) (j k : ℕ) → P (Swaps (0 + j) (0 + k)) → P (Swaps j k)
at_0_0 P j k h =
    subst (λ (n : ℕ). P (Swaps j n)) (let e : 0 + k ≡ k = omega arith in e) (subst (λ (n : ℕ). P (Swaps n (0 + k))) (let e : 0 + j ≡ j = omega arith in e) h)

module _ (b : Contents) (day : ℕ) where
  abbrev IsShownByNone : SupplementQuestion → Type 0
  IsShownByNone q = (x : List Bool) → length x ≡ length b.codes → meets b day q x ≡ false

  -- a question that is put is of rules that are active
  abbrev IsQuiet : SupplementQuestion → Type 0
  IsQuiet q = is_put b day q ≡ true → IsShownByNone q

  quiet_breaks : AllByRecursion IsQuiet (all_questions b) → (s : Supplement) (x : List Bool) → Contains b.supplements s → length x ≡ length b.codes → breaks_with b day s x ≡ false
  quiet_breaks h s x there len = false_from_ne_true _ (λ e.
      let over = breaks_over b day s x e in
      let is : rule_at b there.0 ≡ s = at_place b s there in
      let quiet : IsQuiet (Breaks there.0) = at_0 IsQuiet there.0 (at_breaks IsQuiet 0 b.supplements (all_first IsQuiet (breaks_from 0 b.supplements) (swaps_from 0 b.supplements) h) there.0 there.1) in
      let none = quiet (ap (is_active day) is ∙ (fires_over day x s over.on).active) x len in
      true≢false (sym e ∙ rw is at none))

  quiet_pair : AllByRecursion IsQuiet (all_questions b) → (s t : Supplement) (x : List Bool) (hs : Contains b.supplements s) (ht : Contains b.supplements t) → hs.0 < ht.0
      → length x ≡ length b.codes → SwapsOver b day s t x → is_asked s t ≡ true → ⊥
  quiet_pair h s t x hs ht before len over asked =
      let is_s : rule_at b hs.0 ≡ s = at_place b s hs in
      let is_t : rule_at b ht.0 ≡ t = at_place b t ht in
      let asked_at : is_asked (rule_at b hs.0) (rule_at b ht.0) ≡ true = rw (is_s, is_t) asked in
      let quiet : IsQuiet (Swaps hs.0 ht.0) = at_0_0 IsQuiet hs.0 ht.0 (at_swaps IsQuiet 0 b.supplements no_rule (all_last IsQuiet (breaks_from 0 b.supplements) (swaps_from 0 b.supplements) h) hs.0 ht.0 before ht.1 asked_at) in
      let put : is_put b day (Swaps hs.0 ht.0) ≡ true = and_from _ _ (ap (is_active day) is_s ∙ (fires_over day x s over.on_first).active) (ap (is_active day) is_t ∙ (fires_over day x t over.on_second).active) in
      let none = quiet put x len in
      true≢false (sym (over_swaps b day s t x over) ∙ rw (is_s, is_t) at none)

  quiet_swaps : AllByRecursion IsQuiet (all_questions b) → (s t : Supplement) (x : List Bool) → Contains b.supplements s → Contains b.supplements t → length x ≡ length b.codes → swaps_with b day s t x ≡ false
  quiet_swaps h s t x hs ht len = false_from_ne_true _ (λ e.
      let over = swaps_over b day s t x e in
      elim (cases_Bool (is_asked s t)) [
        | inl asked ↦ elim (cases_order hs.0 ht.0) [
          | inl same ↦ over.apart (ap (λ (r : Supplement). r.code) (sym (at_place b s hs) ∙ ap (rule_at b) same ∙ at_place b t ht))
          | inr apart ↦ elim apart [
            | inl before ↦ quiet_pair h s t x hs ht before len over asked
            | inr behind ↦ quiet_pair h t s x ht hs behind len (swapped_over b day s t x over) (asked_swapped s t asked)
          ]
        ]
        | inr unasked ↦ true≢false (sym e ∙ unasked_law b day s t x unasked)
      ])

  pub calm_law : AllByRecursion IsShownByNone (questions b day) → IsCalm b day
  calm_law h =
      let quiet : AllByRecursion IsQuiet (all_questions b) = from_filter IsShownByNone (is_put b day) (all_questions b) h in
      record { none_breaks = quiet_breaks quiet; none_swaps = quiet_swaps quiet }

-- On two days on which the same records are active the same sets show the same.
pub breaks_alike : (b : Contents) (d e : ℕ) (s : Supplement) (x : List Bool) → AreAlike b d e → Contains b.supplements s → breaks_with b d s x ≡ breaks_with b e s x
breaks_alike b d e s x alike there =
    rw (constructible_alike b d e x alike, fires_alike b d e x s alike there, constructible_alike b d e (with_code s.code x) alike) refl

pub swaps_alike : (b : Contents) (d e : ℕ) (s t : Supplement) (x : List Bool) → AreAlike b d e → Contains b.supplements s → Contains b.supplements t → swaps_with b d s t x ≡ swaps_with b e s t x
swaps_alike b d e s t x alike hs ht =
    rw (constructible_alike b d e x alike, fires_alike b d e x s alike hs, fires_alike b d e x t alike ht) refl

pub meets_alike : (b : Contents) (d e : ℕ) (q : SupplementQuestion) (x : List Bool) → AreAlike b d e → QuestionFits b q → meets b d q x ≡ meets b e q x
meets_alike b d e (Breaks place) x alike fits = breaks_alike b d e (rule_at b place) x alike (Contains-get_or b.supplements place no_rule fits)
meets_alike b d e (Swaps first second) x alike fits =
    swaps_alike b d e (rule_at b first) (rule_at b second) x alike (Contains-get_or b.supplements first no_rule fits.0) (Contains-get_or b.supplements second no_rule fits.1)

pub calm_alike : (b : Contents) (d e : ℕ) → AreAlike b d e → IsCalm b e → IsCalm b d
calm_alike b d e alike calm = record {
  none_breaks = λ s x there len. breaks_alike b d e s x alike there ∙ calm.none_breaks s x there len;
  none_swaps = λ s t x hs ht len. swaps_alike b d e s t x alike hs ht ∙ calm.none_swaps s t x hs ht len;
}

-- What the questions name is in the book.
pub breaks_fit : (b : Contents) (i : ℕ) (ss : List Supplement) → i + length ss ≤ length b.supplements → AllByRecursion (QuestionFits b) (breaks_from i ss)
breaks_fit b i [] few = tt
breaks_fit b i (s ∷ ss) few = (omega arith, breaks_fit b (suc i) ss (omega arith))

-- these are the rules from the place i on
AreRulesFrom : Contents → ℕ → List Supplement → Type 0
AreRulesFrom b i ss = (k : ℕ) → k < length ss → get_or ss k no_rule ≡ rule_at b (i + k)

first_rule : (b : Contents) (i : ℕ) (s : Supplement) (ss : List Supplement) → AreRulesFrom b i (s ∷ ss) → s ≡ rule_at b i
unfolding AreRulesFrom
first_rule b i s ss are = are zero (omega arith) ∙ ap (rule_at b) (let e : i + zero ≡ i = omega arith in e)

later_rules : (b : Contents) (i : ℕ) (s : Supplement) (ss : List Supplement) → AreRulesFrom b i (s ∷ ss) → AreRulesFrom b (suc i) ss
unfolding AreRulesFrom
later_rules b i s ss are k within = are (suc k) (omega arith) ∙ ap (rule_at b) (let e : i + suc k ≡ suc i + k = omega arith in e)

swaps_later_fit : (b : Contents) (i : ℕ) (s : Supplement) (k : ℕ) (ts : List Supplement) → i < length b.supplements → s ≡ rule_at b i → k + length ts ≤ length b.supplements
    → AreRulesFrom b k ts → AllByRecursion (QuestionFits b) (swaps_with_later i s k ts)
swaps_later_fit b i s k [] within is few are = tt
swaps_later_fit b i s k (t ∷ ts) within is few are =
    let rest = swaps_later_fit b i s (suc k) ts within is (omega arith) (later_rules b k t ts are) in
    elim (cases_Bool (is_asked s t)) [
      | inl yes_ ↦
          let asked : is_asked (rule_at b i) (rule_at b k) ≡ true = rw (← is, ← first_rule b k t ts are) yes_ in
          rw yes_ ((within, omega arith, asked), rest)
      | inr no_ ↦ rw no_ rest
    ]

swaps_fit : (b : Contents) (i : ℕ) (ss : List Supplement) → i + length ss ≤ length b.supplements → AreRulesFrom b i ss → AllByRecursion (QuestionFits b) (swaps_from i ss)
swaps_fit b i [] few are = tt
swaps_fit b i (s ∷ ss) few are =
    let later = later_rules b i s ss are in
    all-append (QuestionFits b) (swaps_with_later i s (suc i) ss) (swaps_from (suc i) ss) (swaps_later_fit b i s (suc i) ss (omega arith) (first_rule b i s ss are) (omega arith) later) (swaps_fit b (suc i) ss (omega arith) later)

whole_rules : (b : Contents) → AreRulesFrom b 0 b.supplements
unfolding AreRulesFrom
whole_rules b k within = ap (rule_at b) (let e : k ≡ 0 + k = omega arith in e)

rules_behind : (b : Contents) (i : ℕ) → AreRulesFrom b i (drop i b.supplements)
unfolding AreRulesFrom
rules_behind b i k within = get_or-drop i b.supplements k no_rule

pub pairs_fit : (b : Contents) (place : ℕ) → place < length b.supplements → AllByRecursion (QuestionFits b) (pairs_at b place)
pairs_fit b place within =
    let left = length-drop (suc place) b.supplements in
    swaps_later_fit b place (rule_at b place) (suc place) (drop (suc place) b.supplements) within refl (omega (arith, left)) (rules_behind b (suc place))

pub all_fit : (b : Contents) → AllByRecursion (QuestionFits b) (all_questions b)
all_fit b = all-append (QuestionFits b) (breaks_from 0 b.supplements) (swaps_from 0 b.supplements) (breaks_fit b 0 b.supplements (omega arith)) (swaps_fit b 0 b.supplements (omega arith) (whole_rules b))

pub questions_fit : (b : Contents) (day : ℕ) → AllByRecursion (QuestionFits b) (questions b day)
questions_fit b day = all_filtered (QuestionFits b) (is_put b day) (all_questions b) (all_fit b)

pub fits_at : (b : Contents) (all : List SupplementQuestion) (i : ℕ) → all ≡ all_questions b → i < length all → QuestionFits b (get_or all i (Breaks 0))
fits_at b all i is within = All-get_or (QuestionFits b) all i (Breaks 0) within (subst (All (QuestionFits b)) (sym is) (All-from_recursion (QuestionFits b) (all_questions b) (all_fit b)))
