-- The runs that the slices of a term make are its longest runs.
use Rattle.std.proofs.Common.{◌≡◌, ℕ, suc, ◌+◌, ◌-◌, ◌≤◌, Bool, true, false, cond, leb, List, [], ◌∷◌, ◌++◌, Option, Some, None, Ok, All, length, option_map, refl, sym, ap, subst, ◌∙◌, inl, inr, arith, append_assoc}
use Rattle.std.specs.List.{flat_map, range_with_len, list_any, AllByRecursion}
use Rattle.std.proofs.lemmas.Bool.{cases_Bool, cases_lt, and_parts, and_from, leb-true, le-leb}
use Rattle.std.proofs.lemmas.List.{length-map}
use Rattle.std.proofs.lemmas.List.Elements.{All-from_recursion, recursion_from_All, All-nil}
use Rattle.std.proofs.lemmas.Option.{none-some}
use Rattle.pb_base.specs.Names.{same_name}
use Rattle.pb_base.specs.NamedSet.{named, first_fault}
use Rattle.pb_base.specs.Results.{unless}
use Rattle.pb_base.specs.declared.named_set.NameFault.{NameFault}
use Rattle.book_model.specs.Book.{IsBook, SupplementFits}
use Rattle.book_model.specs.Contents.{Contents}
use Rattle.book_model.specs.Parts.{parts, selected}
use Rattle.book_model.specs.Slices.{days_in, days_of, slices_of, IsOrdered, IsSteady}
use Rattle.book_model.specs.Sound.{is_fit, are_fit_from}
use Rattle.book_model.specs.declared.record.Position.{Position}
use Rattle.book_model.specs.declared.record.Slice.{Slice}
use Rattle.supplement.specs.Completion.{completion_of}
use Rattle.supplement.proofs.Laws.{is_completed-completion}
use Rattle.parts_usage.specs.Fault.{fault_of_name, order_fault}
use Rattle.parts_usage.specs.Outcome.{judged, outcome_of, outcome_of_set}
use Rattle.parts_usage.specs.Broken.{first_broken_of}
use Rattle.parts_usage.specs.Unfit.{first_unfit_from, first_unfit_of}
use Rattle.parts_usage.specs.declared.fault.OrderFault.{OrderFault}
use Rattle.parts_usage.specs.declared.fault.OrderFault.TheVariants.{DayOutsideTerm}
use Rattle.parts_usage.specs.declared.judgement.Outcome.{Outcome}
use Rattle.parts_usage.specs.declared.judgement.Outcome.TheVariants as outcome
use Rattle.parts_usage.specs.declared.unfit.Unfit.{Unfit}
use Rattle.chosen_parts.proofs.FewLaws.{few_from_sound}
use Rattle.order_days.specs.Days.{told_by, IsRun, AreApart, days_in_run, days_fault, AreRuns, FitsOutcome, FitsBook}
use Rattle.order_days.specs.Joined.{outcome_on, run_on, onward, joined_from, joined, runs_on}
use Rattle.order_days.specs.Same.{is_told_same}
use Rattle.order_days.specs.declared.days.DaysFault.{DaysFault}
use Rattle.order_days.specs.declared.days.DaysFault.TheVariants.{Order}
use Rattle.order_days.specs.declared.run.Run.{Run}
use Rattle.order_days.proofs.DayRanges.{Follow, follow, range_with_len-append}
use Rattle.order_days.proofs.OutcomesAlike.{told_on_alike}
use Rattle.order_days.proofs.ToldSame.{told_alike, told_apart}

-- an order of well named codes has no fault on a day of the term
pub faultless_on : (b : Contents) (names : List (List ℕ)) (day : ℕ) → first_fault b.codes [] names ≡ None → b.first ≤ day → day ≤ b.last → order_fault b day names ≡ None
faultless_on b names day none from until =
    ap (λ within. cond within (option_map fault_of_name (first_fault b.codes [] names)) (Some DayOutsideTerm)) (and_from _ _ (le-leb b.first day from) (le-leb day b.last until))
    ∙ ap (option_map fault_of_name) none

comes_to_on : (b : Contents) (names : List (List ℕ)) (day : ℕ) → order_fault b day names ≡ None → outcome_of b day names ≡ Ok (outcome_on b names day)
comes_to_on b names day none = ap (λ fault. unless fault (Ok (outcome_on b names day))) none

-- what an accepted order has

all_fit : (b : Contents) (day : ℕ) (x : List Bool) (i : ℕ) (ps : List Position) → first_unfit_from i b day x ps ≡ None → are_fit_from i b day x ps ≡ true
all_fit b day x i [] none = refl
all_fit b day x i (p ∷ ps) none =
    let unfit : Unfit = record { position = i; count = length (selected b day x i p) } in
    elim (cases_Bool (is_fit b day x i p)) [
      | inl fit ↦ and_from _ _ fit (all_fit b day x (suc i) ps (sym (ap (λ t. cond t (first_unfit_from (suc i) b day x ps) (Some unfit)) fit) ∙ none))
      | inr out ↦ absurd (none-some unfit (sym none ∙ ap (λ t. cond t (first_unfit_from (suc i) b day x ps) (Some unfit)) out))
    ]

fits_set : (b : Contents) (day : ℕ) (y : List Bool) → length y ≡ length b.codes → FitsOutcome b day (outcome_of_set b day y)
fits_set b day y count = by (first_broken_of b day y) (first_unfit_of b day y) refl
  where
    by : (broken : Option ℕ) (unfit : Option Unfit) → first_unfit_of b day y ≡ unfit → FitsOutcome b day (judged broken unfit (outcome.Accepted y (parts b day y)))
    by (Some rule) unfit is = tt
    by None (Some u) is = tt
    by None None is = (count, few_from_sound b day y (all_fit b day y 0 b.positions is))

length-completed : (b : Contents) (names : List (List ℕ)) (day : ℕ) → IsBook b → length (completion_of b day (named b.codes names)).set ≡ length b.codes
length-completed b names day book =
    let same : length (named b.codes names) ≡ length b.codes = length-map b.codes (λ code. list_any (same_name code) names) in
    (is_completed-completion b.supplements day (named b.codes names) (subst (λ n. All (SupplementFits n) b.supplements) (sym same) book.supplements_fit)).same_codes ∙ same

fits_on : (b : Contents) (names : List (List ℕ)) (day : ℕ) → IsBook b → FitsOutcome b day (outcome_on b names day)
fits_on b names day book = fits_set b day (completion_of b day (named b.codes names)).set (length-completed b names day book)

same_ok : (b : Contents) (names : List (List ℕ)) (day : ℕ) (o : Outcome) → outcome_of b day names ≡ Ok o → outcome_on b names day ≡ o
same_ok b names day o h = by (order_fault b day names) h
  where
    by : (fault : Option OrderFault) → unless fault (Ok (outcome_on b names day)) ≡ Ok o → outcome_on b names day ≡ o
    by None is = cc
    by (Some fault) is = absurd (cc)

pub fits_ok : (b : Contents) (names : List (List ℕ)) (day : ℕ) (o : Outcome) → IsBook b → outcome_of b day names ≡ Ok o → FitsOutcome b day o
fits_ok b names day o book is = subst (FitsOutcome b day) (same_ok b names day o is) (fits_on b names day book)

-- a slice as a run, and a run that goes on

slice_run : (b : Contents) (names : List (List ℕ)) (s : Slice) → first_fault b.codes [] names ≡ None → b.first ≤ s.first → s.first ≤ s.last → s.last ≤ b.last → IsSteady b s → IsRun b names (run_on b names s)
slice_run b names s none from order until steady = record {
  comes_to = comes_to_on b names s.first (faultless_on b names s.first none from (omega arith));
  order = order;
  each = λ day within.
      let both = and_parts (leb s.first day) (leb day s.last) within in
      let low : s.first ≤ day = leb-true s.first day both.0 in
      let high : day ≤ s.last = leb-true day s.last both.1 in
      record {
        outcome = outcome_on b names day;
        comes_to = comes_to_on b names day (faultless_on b names day none (omega arith) (omega arith));
        told = told_on_alike b names day s.first (steady day within);
      };
}

onward_run : (b : Contents) (names : List (List ℕ)) (run next : Run) → IsRun b names run → IsRun b names next → told_by b run ≡ told_by b next → next.first ≡ suc run.last → IsRun b names (onward run next)
onward_run b names run next one two same touches =
    let before : run.first ≤ run.last = one.order in
    let behind : next.first ≤ next.last = two.order in
    record {
      comes_to = one.comes_to;
      order = omega arith;
      each = λ day within.
          let both = and_parts (leb run.first day) (leb day next.last) within in
          elim (cases_lt run.last day) [
            | inl later ↦
                let low : next.first ≤ day = omega arith in
                let on = two.each day (and_from _ _ (le-leb next.first day low) both.1) in
                record { outcome = on.outcome; comes_to = on.comes_to; told = on.told ∙ sym same }
            | inr early ↦
                let on = one.each day (and_from _ _ both.0 (le-leb day run.last early)) in
                record { outcome = on.outcome; comes_to = on.comes_to; told = on.told }
          ];
    }

module _ (b : Contents) (names : List (List ℕ)) (none : first_fault b.codes [] names ≡ None) where
  -- each slice begins on a day of the term
  slices_faultless : (from : ℕ) (ss : List Slice) → b.first ≤ from → Follow from b.last ss → AllByRecursion (λ s. order_fault b s.first names ≡ None) ss
  slices_faultless from [] low f = tt
  slices_faultless from (s ∷ ss) low f =
      let first : s.first ≡ from = f.0 in
      let order : s.first ≤ s.last = f.1 in
      let until : s.last ≤ b.last = f.2 in
      (faultless_on b names s.first none (omega arith) (omega arith), slices_faultless (suc s.last) ss (omega arith) f.3)

  slice_runs : (from : ℕ) (ss : List Slice) → b.first ≤ from → Follow from b.last ss → AllByRecursion (IsSteady b) ss → AllByRecursion (λ s. IsRun b names (run_on b names s)) ss
  slice_runs from [] low f steady = tt
  slice_runs from (s ∷ ss) low f steady =
      let first : s.first ≡ from = f.0 in
      let order : s.first ≤ s.last = f.1 in
      (slice_run b names s none (omega arith) order f.2 steady.0, slice_runs (suc s.last) ss (omega arith) f.3 steady.1)

  goes_on : (run : Run) (s : Slice) (ss : List Slice) → is_told_same (told_by b run) (told_by b (run_on b names s)) ≡ true
      → joined_from b run (runs_on b names (s ∷ ss)) ≡ joined_from b (onward run (run_on b names s)) (runs_on b names ss)
  goes_on run s ss same =
      ap (λ t. cond t (joined_from b (onward run (run_on b names s)) (runs_on b names ss)) (run ∷ joined_from b (run_on b names s) (runs_on b names ss))) same

  is_done : (run : Run) (s : Slice) (ss : List Slice) → is_told_same (told_by b run) (told_by b (run_on b names s)) ≡ false
      → joined_from b run (runs_on b names (s ∷ ss)) ≡ run ∷ joined_from b (run_on b names s) (runs_on b names ss)
  is_done run s ss other =
      ap (λ t. cond t (joined_from b (onward run (run_on b names s)) (runs_on b names ss)) (run ∷ joined_from b (run_on b names s) (runs_on b names ss))) other

  days_onward : (run : Run) (s : Slice) → run.first ≤ run.last → s.first ≡ suc run.last → s.first ≤ s.last → days_in_run (onward run (run_on b names s)) ≡ days_in_run run ++ days_in s
  days_onward run s order touches ordered =
      let k : ℕ = suc (run.last - run.first) in
      let n : ℕ = suc (s.last - s.first) in
      let at : run.first + k ≡ s.first = omega arith in
      let count : suc (s.last - run.first) ≡ k + n = omega arith in
      ap (range_with_len run.first) count ∙ sym (range_with_len-append run.first k n) ∙ ap (λ day. range_with_len run.first k ++ range_with_len day n) at

  days_joined : (run : Run) (ss : List Slice) → run.first ≤ run.last → Follow (suc run.last) b.last ss
      → flat_map days_in_run (joined_from b run (runs_on b names ss)) ≡ days_in_run run ++ flat_map days_in ss
  days_joined run [] order f = refl
  days_joined run (s ∷ ss) order f =
      let touches : s.first ≡ suc run.last = f.0 in
      let ordered : s.first ≤ s.last = f.1 in
      elim (cases_Bool (is_told_same (told_by b run) (told_by b (run_on b names s)))) [
        | inl same ↦
            ap (flat_map days_in_run) (goes_on run s ss same)
            ∙ days_joined (onward run (run_on b names s)) ss (omega arith) f.3
            ∙ ap (λ days. days ++ flat_map days_in ss) (days_onward run s order touches ordered)
            ∙ append_assoc (days_in_run run) (days_in s) (flat_map days_in ss)
        | inr other ↦
            ap (flat_map days_in_run) (is_done run s ss other)
            ∙ ap (λ days. days_in_run run ++ days) (days_joined (run_on b names s) ss ordered f.3)
      ]

  told_joined : (run : Run) (ss : List Slice) → IsRun b names run → Follow (suc run.last) b.last ss → AllByRecursion (λ s. IsRun b names (run_on b names s)) ss
      → AllByRecursion (IsRun b names) (joined_from b run (runs_on b names ss))
  told_joined run [] is f each = (is, tt)
  told_joined run (s ∷ ss) is f each =
      elim (cases_Bool (is_told_same (told_by b run) (told_by b (run_on b names s)))) [
        | inl same ↦
            subst (AllByRecursion (IsRun b names)) (sym (goes_on run s ss same))
            (told_joined (onward run (run_on b names s)) ss
            (onward_run b names run (run_on b names s) is each.0 (told_alike (told_by b run) (told_by b (run_on b names s)) same) f.0) f.3 each.1)
        | inr other ↦
            subst (AllByRecursion (IsRun b names)) (sym (is_done run s ss other)) (is, told_joined (run_on b names s) ss each.0 f.3 each.1)
      ]

  -- the first of the runs tells what the run tells that they begin with
  record Heads (run : Run) (runs : List Run) : Type 0 where
    head : Run
    rest : List Run
    is : runs ≡ head ∷ rest
    told : told_by b head ≡ told_by b run

  heads : (run : Run) (ss : List Slice) → Heads run (joined_from b run (runs_on b names ss))
  heads run [] = record { head = run; rest = []; is = refl; told = refl }
  heads run (s ∷ ss) =
      elim (cases_Bool (is_told_same (told_by b run) (told_by b (run_on b names s)))) [
        | inl same ↦
            let h = heads (onward run (run_on b names s)) ss in
            record { head = h.head; rest = h.rest; is = goes_on run s ss same ∙ h.is; told = h.told }
        | inr other ↦ record { head = run; rest = joined_from b (run_on b names s) (runs_on b names ss); is = is_done run s ss other; told = refl }
      ]

  apart_joined : (run : Run) (ss : List Slice) → AreApart b (joined_from b run (runs_on b names ss))
  apart_joined run [] = tt
  apart_joined run (s ∷ ss) =
      elim (cases_Bool (is_told_same (told_by b run) (told_by b (run_on b names s)))) [
        | inl same ↦ subst (AreApart b) (sym (goes_on run s ss same)) (apart_joined (onward run (run_on b names s)) ss)
        | inr other ↦
            let h = heads (run_on b names s) ss in
            subst (AreApart b) (sym (is_done run s ss other))
            (subst (λ runs. AreApart b (run ∷ runs)) (sym h.is) (
              (λ same. told_apart (told_by b run) (told_by b (run_on b names s)) other (same ∙ h.told)),
              subst (AreApart b) h.is (apart_joined (run_on b names s) ss),
            ))
      ]

  days_faultless : (slices : List Slice) → slices_of b ≡ Ok slices → days_fault b names ≡ None
  days_faultless slices is =
      let order : Option NameFault → Option DaysFault = λ found. option_map (λ fault. Order (fault_of_name fault)) found in
      let named_well : order (first_fault b.codes [] names) ≡ None = ap order none in
      rw (none, is) refl

  term_follows : (slices : List Slice) → b.first ≤ b.last → flat_map days_in slices ≡ days_of b → All IsOrdered slices → Follow b.first b.last slices
  term_follows slices term parts ordered =
      let ends : suc b.last ≡ b.first + suc (b.last - b.first) = omega arith in
      follow b.first (suc (b.last - b.first)) b.last slices ends (recursion_from_All IsOrdered slices ordered) parts

  pub all_faultless : (slices : List Slice) → b.first ≤ b.last → flat_map days_in slices ≡ days_of b → All IsOrdered slices → All (λ s. order_fault b s.first names ≡ None) slices
  all_faultless slices term parts ordered =
      All-from_recursion (λ (s : Slice). order_fault b s.first names ≡ None) slices (slices_faultless b.first slices (omega arith) (term_follows slices term parts ordered))

  pub are_runs : (slices : List Slice) → slices_of b ≡ Ok slices → b.first ≤ b.last → flat_map days_in slices ≡ days_of b → All IsOrdered slices → All (IsSteady b) slices
      → AreRuns b names (joined b (runs_on b names slices))
  are_runs [] is term parts ordered steady = record { faultless = days_faultless [] is; days = parts; told = All-nil (IsRun b names); longest = tt }
  are_runs (s ∷ ss) is term parts ordered steady =
      let f : Follow b.first b.last (s ∷ ss) = term_follows (s ∷ ss) term parts ordered in
      let each = slice_runs b.first (s ∷ ss) (omega arith) f (recursion_from_All (IsSteady b) (s ∷ ss) steady) in
      record {
        faultless = days_faultless (s ∷ ss) is;
        days = days_joined (run_on b names s) ss f.1 f.3 ∙ parts;
        told = All-from_recursion (IsRun b names) (joined_from b (run_on b names s) (runs_on b names ss)) (told_joined (run_on b names s) ss each.0 f.3 each.1);
        longest = apart_joined (run_on b names s) ss;
      }

pub fit_runs : (b : Contents) (names : List (List ℕ)) (runs : List Run) → IsBook b → AreRuns b names runs → All (FitsBook b) runs
fit_runs b names runs book are k d within = fits_ok b names _ _ book (are.told k d within).comes_to
