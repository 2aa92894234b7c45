-- A book that can be released has no finding that keeps it from its release.
use Rattle.std.proofs.Common.{◌≡◌, ◌∙◌, ℕ, suc, zero, ◌+◌, ◌-◌, ◌≤◌, Bool, true, false, not, ◌&&◌, ◌||◌, ◌==◌, List, [], ◌∷◌, ◌++◌, None, Some, Ok, length, map, refl, sym, ap, subst, inl, inr, arith}
use Rattle.std.specs.Prelude.{nat_le, if◌then◌else◌}
use Rattle.std.specs.List.{filter, flat_map, list_any, range_with_len, slice_get, AllByRecursion}
use Rattle.std.proofs.lemmas.Bool.{false≢true, true≢false, cases_Bool, and_parts, or_left, cond-true, cond-false, eqb-true, leb-true}
use Rattle.std.proofs.lemmas.List.Elements.{recursion_from_All}
use Rattle.std.proofs.lemmas.List.Folds.{list_any-append}
use Rattle.pb_base.specs.Rule.{holds}
use Rattle.pb_base.specs.InParts.{InParts}
use Rattle.book_model.specs.Activity.{is_within}
use Rattle.book_model.specs.Book.{IsBook}
use Rattle.book_model.specs.Contents.{Contents}
use Rattle.book_model.specs.Good.{is_good}
use Rattle.book_model.specs.Parts.{variants_of, is_selected_at, is_active_position, selected}
use Rattle.book_model.specs.Slices.{slices_of, all_slices, days_in, IsOrdered}
use Rattle.book_model.specs.Sound.{permits, is_fit, are_fit_from, is_sound, IsReleasable}
use Rattle.book_model.specs.declared.record.Position.{Position}
use Rattle.book_model.specs.declared.record.Slice.{Slice}
use Rattle.book_model.proofs.SliceLaws.{slices_partition, slices_ordered}
use Rattle.clausify.specs.Choices.{Choice, usage, is_active_variant, active_variants, choices_from, choices}
use Rattle.clausify.specs.Coded.{slice_asked}
use Rattle.clausify.specs.Pairs.{pairs}
use Rattle.clausify.specs.Questions.{uncovered_question, choice_questions, code_questions_from, questions, goal, is_to_close, HasSet}
use Rattle.clausify.specs.declared.question.Asked.{Asked}
use Rattle.clausify.specs.declared.question.Question.{Question}
use Rattle.clausify.specs.declared.question.Question.TheVariants.{Void, Necessary, Inadmissible, Superfluous, Ambiguous, Uncovered}
use Rattle.clausify.proofs.ListLaws.{all-append, all_first, all_last, all_filtered, all_mapped}
use Rattle.clausify.proofs.QuestionLaws.{asked_in_order}
use Rattle.derivation.proofs.Fit.{met_first, unmet_first, chosen_of, filtered}
use Rattle.derivation.proofs.LimitLaws.{slices_are_all, slices_from_within}
use Rattle.derivation.proofs.Refuted.{IsRefuted, AllRefuted}
use Rattle.findings.specs.Notes.{Inquiry, OwnNotes, AfterVoid, QuestionNotes, SliceNotes, IsReport, is_asked, is_blocking, is_fault, is_left, verdict_of}
use Rattle.findings.specs.declared.report.Note.{Note as Told}
use Rattle.findings.specs.declared.report.Note.TheVariants.{Days, Finding, Undecided}
use Rattle.findings.specs.declared.report.Verdict.TheVariants as verdicts
use Rattle.findings.proofs.Lifting.{on_first}
use Rattle.findings.proofs.UsageLaws.{none_used}

abbrev meets : Contents → List Bool → ℕ → Bool
meets b x variant = holds (usage b variant) x

abbrev NotBoth : Contents → List Bool → ℕ × ℕ → Type 0
NotBoth b x p = (meets b x p.0 && meets b x p.1) ≡ false

-- where none is kept, none passes
none_passes : (p : ℕ → Bool) (ys : List ℕ) → length (filter p ys) ≡ 0 → AllByRecursion (λ y. p y ≡ false) ys
none_passes p [] e = tt
none_passes p (y ∷ ys) e =
    elim (cases_Bool (p y)) [
      | inl met ↦ let more : length (filter p (y ∷ ys)) ≡ suc (length (filter p ys)) = ap length (met_first p y ys met) in absurd (omega (arith, e, more))
      | inr unmet ↦ (unmet, none_passes p ys (sym (ap length (unmet_first p y ys unmet)) ∙ e))
    ]

and_last : (s t : Bool) → t ≡ false → (s && t) ≡ false
and_last true t e = e
and_last false t e = refl

beside_none : (b : Contents) (x : List Bool) (u : ℕ) (vs : List ℕ) → AllByRecursion (λ v. meets b x v ≡ false) vs → AllByRecursion (NotBoth b x) (map (λ y. (u, y)) vs)
beside_none b x u [] h = tt
beside_none b x u (v ∷ vs) h = (and_last (meets b x u) (meets b x v) h.0, beside_none b x u vs h.1)

beside_unmet : (b : Contents) (x : List Bool) (u : ℕ) (vs : List ℕ) → meets b x u ≡ false → AllByRecursion (NotBoth b x) (map (λ y. (u, y)) vs)
beside_unmet b x u [] unmet = tt
beside_unmet b x u (v ∷ vs) unmet = (ap (λ t. t && meets b x v) unmet, beside_unmet b x u vs unmet)

-- where at most one usage is met, no two are
not_both : (b : Contents) (x : List Bool) (vs : List ℕ) → length (filter (meets b x) vs) ≤ 1 → AllByRecursion (NotBoth b x) (pairs vs)
not_both b x [] few = tt
not_both b x (y ∷ ys) few =
    let beside : List (ℕ × ℕ) = map (λ z. (y, z)) ys in
    elim (cases_Bool (meets b x y)) [
      | inl met ↦
          let more : length (filter (meets b x) (y ∷ ys)) ≡ suc (length (filter (meets b x) ys)) = ap length (met_first (meets b x) y ys met) in
          all-append (NotBoth b x) beside (pairs ys)
          (beside_none b x y ys (none_passes (meets b x) ys (omega (arith, few, more)))) (not_both b x ys (omega (arith, few, more)))
      | inr unmet ↦
          let same : length (filter (meets b x) (y ∷ ys)) ≡ length (filter (meets b x) ys) = ap length (unmet_first (meets b x) y ys unmet) in
          all-append (NotBoth b x) beside (pairs ys) (beside_unmet b x y ys unmet) (not_both b x ys (omega (arith, few, same)))
    ]

two_refuted : (b : Contents) (day : ℕ) (x : List Bool) (position : ℕ) (ps : List (ℕ × ℕ)) → AllByRecursion (NotBoth b x) ps
    → AllRefuted b day x (map (λ p. Ambiguous position p.0 p.1) ps)
two_refuted b day x position [] h = tt
two_refuted b day x position (p ∷ ps) h = ((λ _. h.0), two_refuted b day x position ps h.1)

each_refuted : (b : Contents) (day : ℕ) (x : List Bool) (vs : List ℕ) → AllRefuted b day x (map Superfluous vs)
each_refuted b day x [] = tt
each_refuted b day x (v ∷ vs) = ((λ e. absurd (false≢true e)), each_refuted b day x vs)

some_passes : (p : ℕ → Bool) (ys : List ℕ) → 1 ≤ length (filter p ys) → list_any p ys ≡ true
some_passes p [] some = absurd (omega (arith, some))
some_passes p (y ∷ ys) some =
    elim (cases_Bool (p y)) [
      | inl met ↦ or_left (p y) (list_any p ys) met
      | inr unmet ↦ ap (λ t. t || list_any p ys) unmet ∙ some_passes p ys (subst (λ n. 1 ≤ n) (ap length (unmet_first p y ys unmet)) some)
    ]

uncovered_refuted : (b : Contents) (day : ℕ) (x : List Bool) (mandatory : Bool) (position : ℕ)
    → (mandatory ≡ true → 1 ≤ length (filter (meets b x) (active_variants b day position)))
    → AllRefuted b day x (uncovered_question mandatory position)
uncovered_refuted b day x true position some =
    let vs = active_variants b day position in
    ((λ _. none_used b x vs ∙ ap not (some_passes (meets b x) vs (some refl))), tt)
uncovered_refuted b day x false position some = tt

permitted : (mandatory : Bool) (count : ℕ) → (if mandatory then count == 1 else nat_le count 1) ≡ true → (count ≤ 1) × (mandatory ≡ true → 1 ≤ count)
permitted true count e = let one : count ≡ 1 = eqb-true count 1 e in (omega (arith, one), λ _. omega (arith, one))
permitted false count e = (leb-true count 1 e, λ c. absurd (false≢true c))

abbrev choice_at : Contents → ℕ → ℕ → Position → Choice
choice_at b day i p = record { position = i; mandatory = p.mandatory; variants = active_variants b day i }

active_refuted : (b : Contents) (day : ℕ) (x : List Bool) (i : ℕ) (p : Position) → is_active_position day p ≡ true → is_fit b day x i p ≡ true
    → AllRefuted b day x (choice_questions (choice_at b day i p))
active_refuted b day x i p active fit =
    let vs = active_variants b day i in
    let each : List Question = map Superfluous vs in
    let two : List Question = map (λ (z : ℕ × ℕ). Ambiguous i z.0 z.1) (pairs vs) in
    let same : selected b day x i p ≡ filter (meets b x) vs =
    cond-true (is_active_position day p) (filter (is_selected_at b day x) (variants_of i b.variants)) [] active
    ∙ filtered (is_selected_at b day x) (is_active_variant b day) (meets b x) (λ v. chosen_of day x (slice_get b.variants v)) (variants_of i b.variants) in
    let fits : permits p (length (filter (meets b x) vs)) ≡ true =
    sym (ap (λ l. permits p (length l)) same) ∙ sym (ap (λ t. not t || permits p (length (selected b day x i p))) active) ∙ fit in
    let count = permitted p.mandatory (length (filter (meets b x) vs)) fits in
    all-append (IsRefuted b day x) (each ++ two) (uncovered_question p.mandatory i)
    (all-append (IsRefuted b day x) each two (each_refuted b day x vs) (two_refuted b day x i (pairs vs) (not_both b x vs count.0)))
    (uncovered_refuted b day x p.mandatory i count.1)

fit_refuted : (b : Contents) (day : ℕ) (x : List Bool) (i : ℕ) (ps : List Position) → are_fit_from i b day x ps ≡ true
    → AllRefuted b day x (flat_map choice_questions (choices_from i b day ps))
fit_refuted b day x i [] h = tt
fit_refuted b day x i (p ∷ ps) h =
    let c = choice_at b day i p in
    let rest = choices_from (suc i) b day ps in
    let parts = and_parts (is_fit b day x i p) (are_fit_from (suc i) b day x ps) h in
    elim (cases_Bool (is_active_position day p)) [
      | inl active ↦
          subst (λ cs. AllRefuted b day x (flat_map choice_questions cs)) (sym (cond-true (is_active_position day p) (c ∷ rest) rest active))
          (all-append (IsRefuted b day x) (choice_questions c) (flat_map choice_questions rest) (active_refuted b day x i p active parts.0) (fit_refuted b day x (suc i) ps parts.1))
      | inr idle ↦
          subst (λ cs. AllRefuted b day x (flat_map choice_questions cs)) (sym (cond-false (is_active_position day p) (c ∷ rest) rest idle))
          (fit_refuted b day x (suc i) ps parts.1)
    ]

codes_refuted : (b : Contents) (day : ℕ) (x : List Bool) (i : ℕ) (names : List (List ℕ)) → AllRefuted b day x (code_questions_from i names)
codes_refuted b day x i [] = tt
codes_refuted b day x i (name ∷ names) = ((λ e. absurd (false≢true e)), ((λ e. absurd (false≢true e)), codes_refuted b day x (suc i) names))

-- a set that has a parts list meets no goal that a release asks to close
refuted_when_sound : (b : Contents) (day : ℕ) (x : List Bool) → is_sound b day x ≡ true → AllRefuted b day x (questions b day)
refuted_when_sound b day x h = (
  (λ e. absurd (false≢true e)),
  all-append (IsRefuted b day x) (code_questions_from 0 b.codes) (flat_map choice_questions (choices b day)) (codes_refuted b day x 0 b.codes) (fit_refuted b day x 0 b.positions h),
)

-- a slice begins on a day of the term, and doesn't end before
record IsInTerm (b : Contents) (s : Slice) : Type 0 where
  from : b.first ≤ s.first
  to : s.first ≤ b.last
  ordered : s.first ≤ s.last

abbrev IsDayOf : Contents → ℕ → Type 0
IsDayOf b day = (b.first ≤ day) × (day ≤ b.last)

days_of_term : (b : Contents) (a n : ℕ) → b.first ≤ a → a + n ≤ suc b.last → AllByRecursion (IsDayOf b) (range_with_len a n)
days_of_term b a zero from to = tt
days_of_term b a (suc n) from to = ((from, omega arith), days_of_term b (a + 1) n (omega arith) (omega arith))

first_days : (b : Contents) (slices : List Slice) → AllByRecursion (IsDayOf b) (flat_map days_in slices) → AllByRecursion IsOrdered slices → AllByRecursion (IsInTerm b) slices
first_days b [] h k = tt
first_days b (s ∷ slices) h k =
    let own : IsDayOf b s.first = (all_first (IsDayOf b) (days_in s) (flat_map days_in slices) h).0 in
    (record { from = own.0; to = own.1; ordered = k.0 }, first_days b slices (all_last (IsDayOf b) (days_in s) (flat_map days_in slices) h) k.1)

slices_in_term : (b : Contents) (slices : List Slice) → b.first ≤ b.last → slices_of b ≡ Ok slices → AllByRecursion (IsInTerm b) slices
slices_in_term b slices term is =
    subst (λ ss. AllByRecursion (IsInTerm b) ss) (slices_are_all b slices is)
    (first_days b (all_slices b)
    (subst (λ days. AllByRecursion (IsDayOf b) days) (sym (slices_partition b term)) (days_of_term b b.first (suc (b.last - b.first)) (omega arith) (omega arith)))
    (recursion_from_All IsOrdered (all_slices b) (slices_ordered b term)))

-- what holds for each of some things holds of each element
all_swapped : {X Y : Type 0} (P : Y → X → Type 0) (xs : List X) → ((y : Y) → AllByRecursion (P y) xs) → AllByRecursion (λ x. (y : Y) → P y x) xs
all_swapped P [] h = tt
all_swapped P (x ∷ xs) h = ((λ y. (h y).0), all_swapped P xs (λ y. (h y).1))

abbrev GoodAt : Contents → ℕ → Type 0
GoodAt b day = (x : List Bool) × (is_good b day x ≡ true)

-- no good set meets the goal, if a release asks to close the question
abbrev NeverMet : Contents → ℕ → Question → Type 0
NeverMet b day q = (y : GoodAt b day) → IsRefuted b day y.0 q

never_met : (b : Contents) (s : Slice) → IsReleasable b → IsInTerm b s → AllByRecursion (λ (a : Asked). NeverMet b s.first a.question) (slice_asked b s.first)
never_met b s r t =
    all_mapped (NeverMet b s.first) (λ a. a.question) (slice_asked b s.first)
    (subst (λ qs. AllByRecursion (NeverMet b s.first) qs) (sym (asked_in_order b s.first))
    (all_swapped (λ (y : GoodAt b s.first) q. IsRefuted b s.first y.0 q) (questions b s.first)
    (λ y. refuted_when_sound b s.first y.0 (r.sound s.first t.from t.to y.0 y.1))))

not_blocking : (b : Contents) (s : Slice) (q : Question) → HasSet b s Void → is_to_close q ≡ false → (HasSet b s q → ⊥) → is_blocking q ≡ false
not_blocking b s Void has unclosed none = absurd (none has)
not_blocking b s (Necessary place) has unclosed none = unclosed
not_blocking b s (Inadmissible place) has unclosed none = unclosed
not_blocking b s (Superfluous variant) has unclosed none = unclosed
not_blocking b s (Ambiguous position first second) has unclosed none = unclosed
not_blocking b s (Uncovered position) has unclosed none = unclosed

some_good : (b : Contents) (s : Slice) → IsReleasable b → IsInTerm b s → HasSet b s Void
some_good b s r t =
    let good = r.not_void s.first t.from t.to in
    record { day = s.first; not_before = omega arith; not_after = t.ordered; set = good.0; is_good_then = good.1; meets_goal = refl }

own_free : (i : Inquiry) (s : Slice) (a : Asked) (own : List Told) → IsReleasable i.book → IsInTerm i.book s → NeverMet i.book s.first a.question
    → OwnNotes i s a own → list_any is_fault own ≡ false
own_free i s a [] r t nm h = refl
own_free i s a (Days first last ∷ []) r t nm h = absurd h
own_free i s a (Undecided question learnt ∷ []) r t nm h = refl
own_free i s a (Finding question (Some x) ∷ []) r t nm h =
    let inside : is_within s.first s.last s.first ≡ true = on_first s t.ordered in
    let unmet : holds (goal i.book s.first a.question) x ≡ false = nm (x, h.1.1.good_then s.first inside) h.1.0 in
    absurd (true≢false (sym (h.1.1.met_then s.first inside) ∙ unmet))
own_free i s a (Finding question None ∷ []) r t nm h =
    ap (λ u. u || false) (ap is_blocking h.0 ∙ not_blocking i.book s a.question (some_good i.book s r t) h.1.0 h.1.1)
own_free i s a (note ∷ second ∷ own) r t nm h = absurd h

free_both : (own later : List Told) → list_any is_fault own ≡ false → list_any is_fault later ≡ false → list_any is_fault (own ++ later) ≡ false
free_both own later h k = list_any-append is_fault own later ∙ ap (λ t. t || list_any is_fault later) h ∙ k

abbrev AllNeverMet : Contents → Slice → List Asked → Type 0
AllNeverMet b s asked = AllByRecursion (λ (a : Asked). NeverMet b s.first a.question) asked

parts_free : (i : Inquiry) (s : Slice) (asked : List Asked) (notes : List Told) → IsReleasable i.book → IsInTerm i.book s → AllNeverMet i.book s asked
    → InParts (OwnNotes i s) asked notes → list_any is_fault notes ≡ false
parts_free i s [] notes r t nm h = ap (list_any is_fault) h
parts_free i s (a ∷ asked) notes r t nm h =
    ap (list_any is_fault) h.2 ∙ free_both h.0 h.1 (own_free i s a h.0 r t nm.0 h.3) (parts_free i s asked h.1 r t nm.1 h.4)

void_free : (i : Inquiry) (s : Slice) (later : List Asked) (own notes : List Told) → IsReleasable i.book → IsInTerm i.book s → AllNeverMet i.book s later
    → AfterVoid i s later own notes → list_any is_fault notes ≡ false
void_free i s later [] notes r t nm h =
    parts_free i s (filter (λ a. is_asked i.ask a.question) later) notes r t
    (all_filtered (λ (a : Asked). NeverMet i.book s.first a.question) (λ a. is_asked i.ask a.question) later nm) h
void_free i s later (note ∷ own) notes r t nm h = ap (list_any is_fault) h

questions_free : (i : Inquiry) (s : Slice) (asked : List Asked) (notes : List Told) → IsReleasable i.book → IsInTerm i.book s → AllNeverMet i.book s asked
    → QuestionNotes i s asked notes → list_any is_fault notes ≡ false
questions_free i s [] notes r t nm h = ap (list_any is_fault) h
questions_free i s (void ∷ later) notes r t nm h =
    ap (list_any is_fault) h.2 ∙ free_both h.0 h.1 (own_free i s void h.0 r t nm.0 h.3) (void_free i s later h.0 h.1 r t nm.1 h.4)

slice_free : (i : Inquiry) (s : Slice) (notes : List Told) → IsReleasable i.book → IsInTerm i.book s → SliceNotes i s notes → list_any is_fault notes ≡ false
slice_free i s [] r t h = absurd h
slice_free i s (note ∷ notes) r t h =
    ap (λ (n : Told). list_any is_fault (n ∷ notes)) h.0 ∙ questions_free i s (slice_asked i.book s.first) notes r t (never_met i.book s r t) h.1

slices_free : (i : Inquiry) (slices : List Slice) (notes : List Told) → IsReleasable i.book → AllByRecursion (IsInTerm i.book) slices
    → InParts (SliceNotes i) slices notes → list_any is_fault notes ≡ false
slices_free i [] notes r t h = ap (list_any is_fault) h
slices_free i (s ∷ slices) notes r t h =
    ap (list_any is_fault) h.2 ∙ free_both h.0 h.1 (slice_free i s h.0 r t.0 h.3) (slices_free i slices h.1 r t.1 h.4)

free_verdict : (left : Bool) → (if left then verdicts.Undecided else verdicts.Releasable) ≡ verdicts.Blocked → ⊥
free_verdict true e = cc
free_verdict false e = cc

pub never_blocked : (i : Inquiry) (notes : List Told) → IsBook i.book → IsReleasable i.book → IsReport i notes → verdict_of notes ≡ verdicts.Blocked → ⊥
never_blocked i notes book r h blocked =
    let slices = slices_in_term i.book h.slices book.term (slices_from_within i.book h.slices h.within) in
    let free : list_any is_fault notes ≡ false = slices_free i h.slices notes r slices h.each in
    let left = if list_any is_left notes then verdicts.Undecided else verdicts.Releasable in
    free_verdict (list_any is_left notes) (sym (ap (λ t. if t then verdicts.Blocked else left) free) ∙ blocked)
