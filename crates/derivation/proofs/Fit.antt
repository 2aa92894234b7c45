-- Where a set refutes the questions of a day that have to be closed, its parts list has no gap and no choice.
use Rattle.std.proofs.Common.{subst, ◌≡◌, ℕ, suc, ◌≤◌, Bool, true, false, not, ◌&&◌, ◌||◌, cond, eqb, leb, List, [], ◌∷◌, ◌++◌, Option, None, Some, length, map, inl, inr, refl, sym, ap, ◌∙◌, ◌⊎◌, arith}
use Rattle.std.specs.List.{filter, flat_map, slice_get, AllByRecursion}
use Rattle.std.specs.Option.{option_map_or}
use Rattle.std.proofs.lemmas.Bool.{false≢true, true≢false, cases_Bool, and_from, and_cases, not-false, le-leb, eq-eqb, cond-true, cond-false}
use Rattle.pb_base.specs.Rule.{Rule, negation, both, never, holds}
use Rattle.book_model.specs.Activity.{is_within}
use Rattle.book_model.specs.Contents.{Contents}
use Rattle.book_model.specs.Parts.{variants_of, is_selected, is_selected_at, is_active_position, selected}
use Rattle.book_model.specs.Sound.{permits, is_fit, are_fit_from, is_sound}
use Rattle.book_model.specs.declared.record.Position.{Position}
use Rattle.book_model.specs.declared.record.Variant.{Variant}
use Rattle.clausify.specs.Choices.{Choice, usage, is_active_variant, active_variants, choices_from, choices}
use Rattle.clausify.specs.Pairs.{pairs}
use Rattle.clausify.specs.Questions.{and_none, none_rule, uncovered_question, choice_questions, code_questions_from, questions}
use Rattle.clausify.specs.declared.question.Question.{Question}
use Rattle.clausify.specs.declared.question.Question.TheVariants.{Superfluous, Ambiguous, Uncovered}
use Rattle.clausify.proofs.ListLaws.{all_first, all_last}
use Rattle.derivation.proofs.Refuted.{IsRefuted, AllRefuted, first_if}

-- whether the set meets the usage of a variant
abbrev meets : Contents → List Bool → ℕ → Bool
meets b x variant = holds (usage b variant) x

abbrev NotBoth : Contents → List Bool → ℕ × ℕ → Type 0
NotBoth b x p = (meets b x p.0 && meets b x p.1) ≡ false

not_both_asked : (b : Contents) (day : ℕ) (x : List Bool) (position : ℕ) (ps : List (ℕ × ℕ)) → AllRefuted b day x (map (λ p. Ambiguous position p.0 p.1) ps) → AllByRecursion (NotBoth b x) ps
not_both_asked b day x position [] h = tt
not_both_asked b day x position (p ∷ ps) h = (h.0 refl, not_both_asked b day x position ps h.1)

-- beside a variant that is met no other is
none_beside : (b : Contents) (x : List Bool) (u : ℕ) (vs : List ℕ) → meets b x u ≡ true → AllByRecursion (NotBoth b x) (map (λ y. (u, y)) vs) → filter (meets b x) vs ≡ []
none_beside b x u [] met h = refl
none_beside b x u (y ∷ ys) met h =
    let unmet : meets b x y ≡ false = elim (and_cases (meets b x u) (meets b x y) h.0) [ inl e ↦ absurd (true≢false (sym met ∙ e)) | inr e ↦ e ] in
    cond-false (meets b x y) (y ∷ filter (meets b x) ys) (filter (meets b x) ys) unmet ∙ none_beside b x u ys met h.1

pub met_first : (p : ℕ → Bool) (y : ℕ) (ys : List ℕ) → p y ≡ true → filter p (y ∷ ys) ≡ y ∷ filter p ys
met_first p y ys met = cond-true (p y) (y ∷ filter p ys) (filter p ys) met

pub unmet_first : (p : ℕ → Bool) (y : ℕ) (ys : List ℕ) → p y ≡ false → filter p (y ∷ ys) ≡ filter p ys
unmet_first p y ys unmet = cond-false (p y) (y ∷ filter p ys) (filter p ys) unmet

-- where no two variants are met together, at most one is
at_most_one : (b : Contents) (x : List Bool) (vs : List ℕ) → AllByRecursion (NotBoth b x) (pairs vs) → length (filter (meets b x) vs) ≤ 1
at_most_one b x [] h = omega arith
at_most_one b x (y ∷ ys) h =
    let beside : List (ℕ × ℕ) = map (λ z. (y, z)) ys in
    elim (cases_Bool (meets b x y)) [
      | inl met ↦
          let none : filter (meets b x) ys ≡ [] = none_beside b x y ys met (all_first (NotBoth b x) beside (pairs ys) h) in
          let one : length (filter (meets b x) (y ∷ ys)) ≡ 1 = ap length (met_first (meets b x) y ys met ∙ ap (λ l. y ∷ l) none) in
          omega arith
      | inr unmet ↦
          let same : length (filter (meets b x) (y ∷ ys)) ≡ length (filter (meets b x) ys) = ap length (unmet_first (meets b x) y ys unmet) in
          omega (arith, at_most_one b x ys (all_last (NotBoth b x) beside (pairs ys) h))
    ]

keeps_more : (p : ℕ → Bool) (y : ℕ) (ys : List ℕ) → length (filter p ys) ≤ length (filter p (y ∷ ys))
keeps_more p y ys =
    elim (cases_Bool (p y)) [
      | inl met ↦ let more : length (filter p (y ∷ ys)) ≡ suc (length (filter p ys)) = ap length (met_first p y ys met) in omega arith
      | inr unmet ↦ let same : length (filter p (y ∷ ys)) ≡ length (filter p ys) = ap length (unmet_first p y ys unmet) in omega arith
    ]

some_met : (p : ℕ → Bool) (y : ℕ) (ys : List ℕ) → p y ≡ true → 1 ≤ length (filter p (y ∷ ys))
some_met p y ys met = let more : length (filter p (y ∷ ys)) ≡ suc (length (filter p ys)) = ap length (met_first p y ys met) in omega arith

-- where a rule and none of the variants are not met, the rule isn't, or some variant is
some_of : (b : Contents) (x : List Bool) (f : Rule) (vs : List ℕ) → holds (and_none f (map (usage b) vs)) x ≡ false → (holds f x ≡ false) ⊎ (1 ≤ length (filter (meets b x) vs))
some_of b x f [] h = inl h
some_of b x f (y ∷ ys) h =
    elim (cases_Bool (meets b x y)) [
      | inl met ↦ inr (some_met (meets b x) y ys met)
      | inr unmet ↦ elim (some_of b x (both f (negation (usage b y))) ys h) [
        | inl e ↦ elim (and_cases (holds f x) (not (meets b x y)) e) [ inl g ↦ inl g | inr g ↦ absurd (false≢true (sym g ∙ ap not unmet)) ]
        | inr more ↦ inr (omega (arith, keeps_more (meets b x) y ys))
      ]
    ]

at_least_one : (b : Contents) (x : List Bool) (vs : List ℕ) → holds (none_rule (map (usage b) vs)) x ≡ false → 1 ≤ length (filter (meets b x) vs)
at_least_one b x [] h = absurd (true≢false h)
at_least_one b x (y ∷ ys) h =
    elim (some_of b x (negation (usage b y)) ys h) [
      | inl e ↦ some_met (meets b x) y ys (not-false (meets b x y) e)
      | inr more ↦ omega (arith, keeps_more (meets b x) y ys)
    ]

-- the chosen variants are the active ones whose usage is met
pub chosen_of : (day : ℕ) (x : List Bool) (o : Option Variant)
    → option_map_or (is_selected day x) o false ≡ (option_map_or (λ v. is_within v.from v.until day) o false && holds (option_map_or (λ v. v.rule) o never) x)
chosen_of day x None = refl
chosen_of day x (Some v) = refl

pub filtered : (p q r : ℕ → Bool) → ((v : ℕ) → p v ≡ (q v && r v)) → (vs : List ℕ) → filter p vs ≡ filter r (filter q vs)
filtered p q r same [] = refl
filtered p q r same (v ∷ vs) =
    elim (cases_Bool (q v)) [
      | inl taken ↦
          let e : p v ≡ r v = same v ∙ ap (λ t. t && r v) taken in
          ap (λ t. cond t (v ∷ filter p vs) (filter p vs)) e ∙ ap (λ l. cond (r v) (v ∷ l) l) (filtered p q r same vs) ∙ sym (ap (filter r) (met_first q v vs taken))
      | inr left ↦
          let e : p v ≡ false = same v ∙ ap (λ t. t && r v) left in
          unmet_first p v vs e ∙ filtered p q r same vs ∙ sym (ap (filter r) (unmet_first q v vs left))
    ]

permits_from : (p : Position) (count : ℕ) → count ≤ 1 → (p.mandatory ≡ true → 1 ≤ count) → permits p count ≡ true
permits_from p count most some =
    elim (cases_Bool p.mandatory) [
      | inl must ↦ let least : 1 ≤ count = some must in let one : count ≡ 1 = omega arith in cond-true p.mandatory (eqb count 1) (leb count 1) must ∙ eq-eqb count 1 one
      | inr may ↦ cond-false p.mandatory (eqb count 1) (leb count 1) may ∙ le-leb count 1 most
    ]

abbrev choice_at : Contents → ℕ → ℕ → Position → Choice
choice_at b day i p = record { position = i; mandatory = p.mandatory; variants = active_variants b day i }

active_fits : (b : Contents) (day : ℕ) (x : List Bool) (i : ℕ) (p : Position) → is_active_position day p ≡ true
    → AllRefuted b day x (choice_questions (choice_at b day i p)) → is_fit b day x i p ≡ true
active_fits b day x i p active h =
    let vs = active_variants b day i in
    let each : List Question = map Superfluous vs in
    let two : List Question = map (λ (z : ℕ × ℕ). Ambiguous i z.0 z.1) (pairs vs) in
    let front : AllRefuted b day x (each ++ two) = all_first (IsRefuted b day x) (each ++ two) (uncovered_question p.mandatory i) h in
    let back : AllRefuted b day x (uncovered_question p.mandatory i) = all_last (IsRefuted b day x) (each ++ two) (uncovered_question p.mandatory i) h in
    let paired = not_both_asked b day x i (pairs vs) (all_last (IsRefuted b day x) each two front) in
    let uncovered = first_if (IsRefuted b day x) p.mandatory (Uncovered i) [] back in
    let same : selected b day x i p ≡ filter (meets b x) vs =
    cond-true (is_active_position day p) (filter (is_selected_at b day x) (variants_of i b.variants)) [] active
    ∙ filtered (is_selected_at b day x) (is_active_variant b day) (meets b x) (λ v. chosen_of day x (slice_get b.variants v)) (variants_of i b.variants) in
    let fits : permits p (length (filter (meets b x) vs)) ≡ true =
    permits_from p (length (filter (meets b x) vs)) (at_most_one b x vs paired) (λ must. at_least_one b x vs (uncovered.0 must refl)) in
    ap (λ t. not t || permits p (length (selected b day x i p))) active ∙ ap (λ l. permits p (length l)) same ∙ fits

fit_from : (b : Contents) (day : ℕ) (x : List Bool) (i : ℕ) (ps : List Position) → AllRefuted b day x (flat_map choice_questions (choices_from i b day ps)) → are_fit_from i b day x ps ≡ true
fit_from b day x i [] h = refl
fit_from b day x i (p ∷ ps) h =
    let c = choice_at b day i p in
    let rest = choices_from (suc i) b day ps in
    elim (cases_Bool (is_active_position day p)) [
      | inl active ↦
          let k : AllRefuted b day x (flat_map choice_questions (c ∷ rest)) =
          subst (λ cs. AllRefuted b day x (flat_map choice_questions cs)) (cond-true (is_active_position day p) (c ∷ rest) rest active) h in
          and_from (is_fit b day x i p) (are_fit_from (suc i) b day x ps)
          (active_fits b day x i p active (all_first (IsRefuted b day x) (choice_questions c) (flat_map choice_questions rest) k))
          (fit_from b day x (suc i) ps (all_last (IsRefuted b day x) (choice_questions c) (flat_map choice_questions rest) k))
      | inr idle ↦
          and_from (is_fit b day x i p) (are_fit_from (suc i) b day x ps)
          (ap (λ t. not t || permits p (length (selected b day x i p))) idle)
          (fit_from b day x (suc i) ps
          (subst (λ cs. AllRefuted b day x (flat_map choice_questions cs)) (cond-false (is_active_position day p) (c ∷ rest) rest idle) h))
    ]

pub sound_from_refuted : (b : Contents) (day : ℕ) (x : List Bool) → AllRefuted b day x (questions b day) → is_sound b day x ≡ true
sound_from_refuted b day x h =
    fit_from b day x 0 b.positions (all_last (IsRefuted b day x) (code_questions_from 0 b.codes) (flat_map choice_questions (choices b day)) h.1)
