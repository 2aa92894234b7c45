-- The reports of the worked book: nothing is wrong with it, without its second rule two motors may be selected at once, and with a
-- rule that is never met it is void.
use Rattle.std.proofs.Common.{◌≡◌, ℕ, zero, suc, ◌<◌, ◌≤◌, Bool, true, false, not, ◌&&◌, ◌||◌, cond, eqb, List, [], ◌∷◌, ◌++◌, Some, None, length, map, refl, sym, ap, ◌∙◌, arith, codes}
use Rattle.std.specs.List.{list_all}
use Rattle.std.proofs.lemmas.Bool.{and_parts, and_from, false≢true, true≢false, le-leb, eqb-true}
use Rattle.std.proofs.lemmas.List.Folds.{list_all-append, list_all-map}
use Rattle.pb_base.specs.Rule.{Rule as Formula, holds, never}
use Rattle.book_model.specs.Activity.{is_within}
use Rattle.book_model.specs.Contents.{Contents}
use Rattle.book_model.specs.Good.{is_good, is_closed, is_constructible, breaks}
use Rattle.book_model.specs.Slices.{IsSteady, slices_of, days_from_to}
use Rattle.book_model.specs.WorkedBook.{an_engine, one_engine, a_gearbox, one_gearbox, book_with, book_t, set_t}
use Rattle.book_model.specs.declared.demand.Demand.TheVariants.{Rule}
use Rattle.book_model.specs.declared.record.Construct.{Construct}
use Rattle.book_model.specs.declared.record.Slice.{Slice}
use Rattle.book_model.proofs.DaysAlike.{good_alike}
use Rattle.book_model.proofs.SliceLaws.{slices_steady}
use Rattle.clausify.specs.Choices.{usage}
use Rattle.clausify.specs.Questions.{goal, none_rule, HasSet, is_to_close}
use Rattle.clausify.specs.declared.question.Question.{Question}
use Rattle.clausify.specs.declared.question.Question.TheVariants.{Void, Necessary, Inadmissible, Superfluous, Ambiguous, Uncovered}
use Rattle.findings.specs.Findings.{MeetsThrough, NeedsNoNote}
use Rattle.findings.specs.Notes.{IsReport, verdict_of}
use Rattle.findings.specs.declared.report.Ask.TheVariants.{All, Blocking}
use Rattle.findings.specs.declared.report.Note.{Note}
use Rattle.findings.specs.declared.report.Note.TheVariants.{Days, Finding}
use Rattle.findings.specs.declared.report.Verdict.TheVariants.{Releasable, Blocked}

abbrev all_days : Slice
all_days = days_from_to 1 1000

abbrev two_engines_allowed : Contents
two_engines_allowed = book_with (an_engine ∷ a_gearbox ∷ one_gearbox ∷ []) book_t.variants

abbrev never_met : Construct
never_met = record { id = codes "C9"; demand = Rule None never; from = 1; until = 1000 }

abbrev void_book : Contents
void_book = book_with (an_engine ∷ one_engine ∷ a_gearbox ∷ one_gearbox ∷ never_met ∷ []) book_t.variants

-- verdicts
free : verdict_of (Days 1 1000 ∷ []) ≡ Releasable
free = refl

two_motors : verdict_of (Days 1 1000 ∷ Finding (Ambiguous 0 0 1) (Some (set_t true true true false false)) ∷ []) ≡ Blocked
two_motors = refl

no_set : verdict_of (Days 1 1000 ∷ Finding Void None ∷ []) ≡ Blocked
no_set = refl

-- a code that nobody can order keeps no book from its release
inadmissible : verdict_of (Days 1 1000 ∷ Finding (Inadmissible 3) None ∷ []) ≡ Releasable
inadmissible = refl

-- a property of all sets of n codes
sets_of : ℕ → List (List Bool)
sets_of zero = [] ∷ []
sets_of (suc n) = map (λ (x : List Bool). true ∷ x) (sets_of n) ++ map (λ (x : List Bool). false ∷ x) (sets_of n)

of_each : (n : ℕ) (p : List Bool → Bool) → list_all p (sets_of n) ≡ true → (x : List Bool) → length x ≡ n → p x ≡ true
unfolding sets_of
of_each zero p h [] e = (and_parts (p []) true h).0
of_each zero p h (t ∷ x) e = absurd (omega arith)
of_each (suc n) p h [] e = absurd (omega arith)
of_each (suc n) p h (true ∷ x) e =
    let parts = and_parts _ _ (sym (list_all-append p (map (λ (y : List Bool). true ∷ y) (sets_of n)) (map (λ (y : List Bool). false ∷ y) (sets_of n))) ∙ h) in
    of_each n (λ y. p (true ∷ y)) (sym (list_all-map p (λ (y : List Bool). true ∷ y) (sets_of n)) ∙ parts.0) x (omega arith)
of_each (suc n) p h (false ∷ x) e =
    let parts = and_parts _ _ (sym (list_all-append p (map (λ (y : List Bool). true ∷ y) (sets_of n)) (map (λ (y : List Bool). false ∷ y) (sets_of n))) ∙ h) in
    of_each n (λ y. p (false ∷ y)) (sym (list_all-map p (λ (y : List Bool). false ∷ y) (sets_of n)) ∙ parts.1) x (omega arith)

on_day : (day : ℕ) → 1 ≤ day → day ≤ 1000 → is_within 1 1000 day ≡ true
on_day day low high = and_from _ _ (le-leb 1 day low) (le-leb day 1000 high)

-- on all days of the term the same sets are good
steady_t : IsSteady book_t all_days
steady_t = let some : 0 < 1 = omega arith in slices_steady book_t (omega arith) 0 all_days some

steady_two : IsSteady two_engines_allowed all_days
steady_two = let some : 0 < 1 = omega arith in slices_steady two_engines_allowed (omega arith) 0 all_days some

good_first : (b : Contents) → IsSteady b all_days → (day : ℕ) → is_within 1 1000 day ≡ true → (x : List Bool) → is_good b day x ≡ is_good b 1 x
good_first b steady day within x = good_alike b day 1 x (steady day within)

good_counted : (b : Contents) (day : ℕ) (x : List Bool) → is_good b day x ≡ true → length x ≡ length b.codes
good_counted b day x good =
    eqb-true (length x) (length b.codes) (and_parts (is_closed b day x && is_constructible b day x) (eqb (length x) (length b.codes)) good).1

-- a book of five codes, of whose 32 sets no good one meets the goal f
none_meets : (b : Contents) → IsSteady b all_days → length b.codes ≡ 5 → (f : Formula) → list_all (λ x. not (is_good b 1 x && holds f x)) (sets_of 5) ≡ true
    → (day : ℕ) → is_within 1 1000 day ≡ true → (x : List Bool) → is_good b day x ≡ true → holds f x ≡ true → ⊥
none_meets b steady five f none day within x good met =
    let first : is_good b 1 x ≡ true = sym (good_first b steady day within x) ∙ good in
    let both : (is_good b 1 x && holds f x) ≡ true = and_from (is_good b 1 x) (holds f x) first met in
    let never_so : not (is_good b 1 x && holds f x) ≡ true = of_each 5 (λ y. not (is_good b 1 y && holds f y)) none x (good_counted b day x good ∙ five) in
    false≢true (ap not (sym both) ∙ never_so)

one_motor : HasSet book_t all_days (Ambiguous 0 0 1) → ⊥
unfolding sets_of
one_motor h = none_meets book_t steady_t refl (goal book_t 1 (Ambiguous 0 0 1)) refl h.day (on_day h.day h.not_before h.not_after) h.set h.is_good_then h.meets_goal

-- the goal of a position without a motor, where t says whether the motors are active
abbrev no_motor_goal : Bool → Formula
no_motor_goal t = none_rule (map (usage book_t) (cond t (0 ∷ cond t (1 ∷ []) []) (cond t (1 ∷ []) [])))

a_motor : (b : Contents) → IsSteady b all_days → length b.codes ≡ 5 → list_all (λ x. not (is_good b 1 x && holds (no_motor_goal true) x)) (sets_of 5) ≡ true
    → (h : HasSet b all_days (Uncovered 0)) → goal b h.day (Uncovered 0) ≡ no_motor_goal (is_within 1 1000 h.day) → ⊥
a_motor b steady five none h is =
    let within = on_day h.day h.not_before h.not_after in
    none_meets b steady five (no_motor_goal true) none h.day within h.set h.is_good_then
    (sym (ap (λ (t : Bool). holds (no_motor_goal t) h.set) within) ∙ sym (ap (λ (f : Formula). holds f h.set) is) ∙ h.meets_goal)

a_motor_in_t : HasSet book_t all_days (Uncovered 0) → ⊥
unfolding sets_of
a_motor_in_t h = a_motor book_t steady_t refl refl h refl

a_motor_in_two : HasSet two_engines_allowed all_days (Uncovered 0) → ⊥
unfolding sets_of
a_motor_in_two h = a_motor two_engines_allowed steady_two refl refl h refl

-- what needs no note
with_set : (b : Contents) (q : Question) (x : List Bool) → is_to_close q ≡ false → is_good b 1 x ≡ true → holds (goal b 1 q) x ≡ true → NeedsNoNote b all_days q
with_set b q x may good met = record {
  no_fault = λ must. absurd (true≢false (sym must ∙ may));
  some_set = λ _. record { day = 1; not_before = omega arith; not_after = omega arith; set = x; is_good_then = good; meets_goal = met };
}

without_set : (b : Contents) (q : Question) → is_to_close q ≡ true → (HasSet b all_days q → ⊥) → NeedsNoNote b all_days q
without_set b q must none = record { no_fault = λ _. none; some_set = λ may. absurd (true≢false (sym must ∙ may)) }

abbrev first_engine : List Bool
first_engine = set_t true false true false false

abbrev second_engine : List Bool
second_engine = set_t false true false true true

-- all questions asked, nothing is wrong with the worked book
nothing_wrong : IsReport (record { book = book_t; ask = All; budget = 10000 }) (Days 1 1000 ∷ [])
unfolding slices_of
nothing_wrong = record {
  slices = all_days ∷ [];
  within = refl;
  each = (
    Days 1 1000 ∷ [],
    [],
    refl,
    (
      refl,
      (
        [],
        [],
        refl,
        with_set book_t Void first_engine refl refl refl,
        (
          [],
          [],
          refl,
          with_set book_t (Necessary 0) second_engine refl refl refl,
          (
            [],
            [],
            refl,
            with_set book_t (Inadmissible 0) first_engine refl refl refl,
            (
              [],
              [],
              refl,
              with_set book_t (Necessary 1) first_engine refl refl refl,
              (
                [],
                [],
                refl,
                with_set book_t (Inadmissible 1) second_engine refl refl refl,
                (
                  [],
                  [],
                  refl,
                  with_set book_t (Necessary 2) second_engine refl refl refl,
                  (
                    [],
                    [],
                    refl,
                    with_set book_t (Inadmissible 2) first_engine refl refl refl,
                    (
                      [],
                      [],
                      refl,
                      with_set book_t (Necessary 3) first_engine refl refl refl,
                      (
                        [],
                        [],
                        refl,
                        with_set book_t (Inadmissible 3) second_engine refl refl refl,
                        (
                          [],
                          [],
                          refl,
                          with_set book_t (Necessary 4) first_engine refl refl refl,
                          (
                            [],
                            [],
                            refl,
                            with_set book_t (Inadmissible 4) second_engine refl refl refl,
                            (
                              [],
                              [],
                              refl,
                              with_set book_t (Superfluous 0) first_engine refl refl refl,
                              (
                                [],
                                [],
                                refl,
                                with_set book_t (Superfluous 1) second_engine refl refl refl,
                                (
                                  [],
                                  [],
                                  refl,
                                  without_set book_t (Ambiguous 0 0 1) refl one_motor,
                                  ([], [], refl, without_set book_t (Uncovered 0) refl a_motor_in_t, refl),
                                ),
                              ),
                            ),
                          ),
                        ),
                      ),
                    ),
                  ),
                ),
              ),
            ),
          ),
        ),
      ),
    ),
    refl,
  );
}

-- a rule that is never met leaves no good set
broken_last : (a b c d t : Bool) → t ≡ true → not (a || (b || (c || (d || ((t && true) || false))))) ≡ true → ⊥
broken_last true b c d t on h = false≢true h
broken_last false true c d t on h = false≢true h
broken_last false false true d t on h = false≢true h
broken_last false false false true t on h = false≢true h
broken_last false false false false true on h = false≢true h
broken_last false false false false false on h = false≢true on

is_void : HasSet void_book all_days Void → ⊥
is_void h =
    let day = h.day in
    let x = h.set in
    let parts = and_parts (is_closed void_book day x && is_constructible void_book day x) (eqb (length x) 5) h.is_good_then in
    let kept = (and_parts (is_closed void_book day x) (is_constructible void_book day x) parts.0).1 in
    broken_last (breaks day x an_engine) (breaks day x one_engine) (breaks day x a_gearbox) (breaks day x one_gearbox) (is_within 1 1000 day)
    (on_day day h.not_before h.not_after) kept

void_told : IsReport (record { book = void_book; ask = All; budget = 10000 }) (Days 1 1000 ∷ Finding Void None ∷ [])
unfolding slices_of
void_told = record {
  slices = all_days ∷ [];
  within = refl;
  each = (Days 1 1000 ∷ Finding Void None ∷ [], [], refl, (refl, (Finding Void None ∷ [], [], refl, (refl, (refl, is_void)), refl)), refl);
}

-- both engines with five gears are found on each day, where the second rule is left out
abbrev two_motors_note : Note
two_motors_note = Finding (Ambiguous 0 0 1) (Some (set_t true true true false false))

two_at_once : MeetsThrough two_engines_allowed all_days (Ambiguous 0 0 1) (set_t true true true false false)
two_at_once = record {
  good_then = λ day within. good_first two_engines_allowed steady_two day within (set_t true true true false false);
  met_then = λ day within. refl;
}

-- only the questions that block a release are asked
two_motors_told : IsReport (record { book = two_engines_allowed; ask = Blocking; budget = 10000 }) (Days 1 1000 ∷ two_motors_note ∷ [])
unfolding slices_of
two_motors_told = record {
  slices = all_days ∷ [];
  within = refl;
  each = (
    Days 1 1000 ∷ two_motors_note ∷ [],
    [],
    refl,
    (
      refl,
      (
        [],
        two_motors_note ∷ [],
        refl,
        with_set two_engines_allowed Void first_engine refl refl refl,
        (
          two_motors_note ∷ [],
          [],
          refl,
          (refl, (refl, two_at_once)),
          ([], [], refl, without_set two_engines_allowed (Uncovered 0) refl a_motor_in_two, refl),
        ),
      ),
    ),
    refl,
  );
}
