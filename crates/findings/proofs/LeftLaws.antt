-- A question that a report leaves is open in its slice.
use Rattle.std.proofs.Common.{◌≡◌, ℕ, zero, suc, ◌+◌, ◌-◌, ◌<◌, ◌≤◌, ◌^◌, Bool, true, false, ◌||◌, cond, List, [], ◌∷◌, Some, refl, sym, ap, subst, ◌∙◌, arith}
use Rattle.std.proofs.lemmas.List.Folds.{list_any-append}
use Rattle.std.specs.Prelude.{◌≢◌}
use Rattle.std.specs.List.{filter, list_any, range_with_len, slice_get, AllByRecursion}
use Rattle.pb_base.specs.InParts.{InParts}
use Rattle.book_model.specs.Contents.{Contents}
use Rattle.book_model.specs.Slices.{all_slices, change_days, days_of, is_change, runs_from}
use Rattle.book_model.specs.declared.record.Slice.{Slice}
use Rattle.clausify.proofs.ListLaws.{all-append, all_filtered}
use Rattle.clausify.specs.Coded.{slice_clauses, slice_variables, slice_asked}
use Rattle.clausify.specs.declared.question.Asked.{Asked}
use Rattle.derivation.proofs.LimitLaws.{slices_are_all, slices_from_within}
use Rattle.solver.proofs.CountLaws.{spent_within, spent_quiet}
use Rattle.solver.proofs.OneLaws.{in_one}
use Rattle.findings.specs.Left.{IsLeftOpen, SliceLeavesOpen, LeavesOpen, IsAmple, was_left}
use Rattle.findings.specs.Notes.{Inquiry, IsNoteOf, OwnNotes, AfterVoid, QuestionNotes, SliceNotes, IsReport, is_asked, is_fault, is_left, verdict_of}
use Rattle.findings.specs.declared.report.Note.{Note}
use Rattle.findings.specs.declared.report.Note.TheVariants.{Days, Finding, Undecided}
use Rattle.findings.specs.declared.report.Verdict.TheVariants as verdicts

-- what holds of each element of a list holds of each with its place
abbrev IsAt : List Asked → Asked → Type 0
IsAt qs a = (n : ℕ) × (slice_get qs n ≡ Some a)

further : (q : Asked) (qs xs : List Asked) → AllByRecursion (IsAt qs) xs → AllByRecursion (IsAt (q ∷ qs)) xs
further q qs [] h = tt
further q qs (x ∷ xs) h = ((suc h.0.0, h.0.1), further q qs xs h.1)

members : (qs : List Asked) → AllByRecursion (IsAt qs) qs
members [] = tt
members (q ∷ qs) = ((0, refl), further q qs qs (members qs))

-- the slices of a term begin on its days
abbrev pub IsDayOf : Contents → ℕ → Type 0
IsDayOf b day = (b.first ≤ day) × (day ≤ b.last)

days_of_term : (b : Contents) (a n : ℕ) → b.first ≤ a → a + n ≤ suc b.last → AllByRecursion (IsDayOf b) (range_with_len a n)
days_of_term b a zero from to = tt
days_of_term b a (suc n) from to = ((from, omega arith), days_of_term b (a + 1) n (omega arith) (omega arith))

begin_there : (b : Contents) (days : List ℕ) (last : ℕ) → AllByRecursion (IsDayOf b) days → AllByRecursion (λ (s : Slice). IsDayOf b s.first) (runs_from days last)
begin_there b [] last h = tt
begin_there b (day ∷ days) last h = (h.0, begin_there b days last h.1)

pub slices_begin : (b : Contents) → b.first ≤ b.last → AllByRecursion (λ (s : Slice). IsDayOf b s.first) (all_slices b)
slices_begin b term =
    begin_there b (change_days b) b.last
    (all_filtered (IsDayOf b) (is_change b) (days_of b) (days_of_term b b.first (suc (b.last - b.first)) (omega arith) (omega arith)))

module _ (i : Inquiry) (s : Slice) (some : 0 < i.budget) where
  pub note_open : (a : Asked) (number : ℕ) (note : Note) → slice_get (slice_asked i.book s.first) number ≡ Some a → IsNoteOf i s a note → IsLeftOpen i s note
  note_open a number (Days first last) its h = absurd h
  note_open a number (Finding question set) its h = tt
  note_open a number (Undecided question learnt) its h =
      let quiet = spent_quiet (slice_variables i.book s.first) (slice_clauses i.book s.first) (a.goal ∷ []) i.budget learnt.clauses h.1 some in
      record {
        asked = a;
        number = number;
        is_its = its;
        same = h.0;
        quiet_set = quiet.0;
        quiet = quiet.1;
        has_goal = quiet.2 a.goal (in_one a.goal);
        within = spent_within (slice_variables i.book s.first) (slice_clauses i.book s.first) (a.goal ∷ []) i.budget learnt.clauses h.1;
      }

  own_open : (a : Asked) (own : List Note) → IsAt (slice_asked i.book s.first) a → OwnNotes i s a own → AllByRecursion (IsLeftOpen i s) own
  own_open a [] at h = tt
  own_open a (note ∷ []) at h = (note_open a at.0 note at.1 h, tt)
  own_open a (note ∷ second ∷ own) at h = absurd h

  parts_open : (asked : List Asked) (notes : List Note) → AllByRecursion (IsAt (slice_asked i.book s.first)) asked → InParts (OwnNotes i s) asked notes → AllByRecursion (IsLeftOpen i s) notes
  parts_open [] notes at h = subst (AllByRecursion (IsLeftOpen i s)) (sym h) tt
  parts_open (a ∷ asked) notes at h =
      subst (AllByRecursion (IsLeftOpen i s)) (sym h.2)
      (all-append (IsLeftOpen i s) h.0 h.1 (own_open a h.0 at.0 h.3) (parts_open asked h.1 at.1 h.4))

  void_open : (later : List Asked) (own notes : List Note) → AllByRecursion (IsAt (slice_asked i.book s.first)) later → AfterVoid i s later own notes → AllByRecursion (IsLeftOpen i s) notes
  void_open later [] notes at h =
      parts_open (filter (λ a. is_asked i.ask a.question) later) notes (all_filtered (IsAt (slice_asked i.book s.first)) (λ a. is_asked i.ask a.question) later at) h
  void_open later (note ∷ own) notes at h = subst (AllByRecursion (IsLeftOpen i s)) (sym h) tt

  questions_open : (asked : List Asked) (notes : List Note) → AllByRecursion (IsAt (slice_asked i.book s.first)) asked → QuestionNotes i s asked notes → AllByRecursion (IsLeftOpen i s) notes
  questions_open [] notes at h = subst (AllByRecursion (IsLeftOpen i s)) (sym h) tt
  questions_open (void ∷ later) notes at h =
      subst (AllByRecursion (IsLeftOpen i s)) (sym h.2)
      (all-append (IsLeftOpen i s) h.0 h.1 (own_open void h.0 at.0 h.3) (void_open later h.0 h.1 at.1 h.4))

  slice_open : (notes : List Note) → SliceNotes i s notes → SliceLeavesOpen i s notes
  slice_open [] h = absurd h
  slice_open (note ∷ notes) h = (h.0, questions_open (slice_asked i.book s.first) notes (members (slice_asked i.book s.first)) h.1)

slices_open : (i : Inquiry) (slices : List Slice) (notes : List Note) → 0 < i.budget → InParts (SliceNotes i) slices notes → InParts (SliceLeavesOpen i) slices notes
slices_open i [] notes some h = h
slices_open i (s ∷ slices) notes some h = (h.0, h.1, h.2, slice_open i s some h.0 h.3, slices_open i slices h.1 some h.4)

pub report_open : (i : Inquiry) (notes : List Note) → 0 < i.budget → IsReport i notes → LeavesOpen i notes
report_open i notes some h = record { slices = h.slices; within = h.within; each = slices_open i h.slices notes some h.each }

-- ---- where the budget is ample

abbrev IsAmpleOn : Inquiry → Slice → Type 0
IsAmpleOn i s = 3 ^ slice_variables i.book s.first < i.budget

none_on : (i : Inquiry) (s : Slice) (notes : List Note) → IsAmpleOn i s → AllByRecursion (IsLeftOpen i s) notes → list_any was_left notes ≡ false
none_on i s [] ample h = refl
none_on i s (Days first last ∷ notes) ample h = absurd h.0
none_on i s (Finding question set ∷ notes) ample h = none_on i s notes ample h.1
none_on i s (Undecided question learnt ∷ notes) ample h = let within = h.0.within in absurd (omega (arith, ample, within))

none_in : (i : Inquiry) (s : Slice) (notes : List Note) → IsAmpleOn i s → SliceLeavesOpen i s notes → list_any was_left notes ≡ false
none_in i s [] ample h = absurd h
none_in i s (note ∷ notes) ample h = ap (λ (n : Note). list_any was_left (n ∷ notes)) h.0 ∙ none_on i s notes ample h.1

none_in_all : (i : Inquiry) (slices : List Slice) (notes : List Note) → AllByRecursion (IsAmpleOn i) slices → InParts (SliceLeavesOpen i) slices notes
    → list_any was_left notes ≡ false
none_in_all i [] notes ample h = ap (list_any was_left) h
none_in_all i (s ∷ slices) notes ample h =
    ap (list_any was_left) h.2 ∙ list_any-append was_left h.0 h.1
    ∙ ap (λ (t : Bool). t || list_any was_left h.1) (none_in i s h.0 ample.0 h.3) ∙ none_in_all i slices h.1 ample.1 h.4

ample_on : (i : Inquiry) (slices : List Slice) → IsAmple i.book i.budget → AllByRecursion (λ (s : Slice). IsDayOf i.book s.first) slices → AllByRecursion (IsAmpleOn i) slices
ample_on i [] ample days = tt
ample_on i (s ∷ slices) ample days = (ample s.first days.0.0 days.0.1, ample_on i slices ample days.1)

pub report_none : (i : Inquiry) (notes : List Note) → i.book.first ≤ i.book.last → IsAmple i.book i.budget → IsReport i notes → list_any was_left notes ≡ false
report_none i notes term ample h =
    let first : 3 ^ slice_variables i.book i.book.first < i.budget = ample i.book.first (omega arith) term in
    none_in_all i h.slices notes
    (ample_on i h.slices ample
    (subst (AllByRecursion (λ (s : Slice). IsDayOf i.book s.first)) (slices_are_all i.book h.slices (slices_from_within i.book h.slices h.within)) (slices_begin i.book term)))
    (slices_open i h.slices notes (omega (arith, first)) h.each)

-- what blocks a release and was left is among it
none_blocks : (notes : List Note) → list_any was_left notes ≡ false → list_any is_left notes ≡ false
none_blocks [] none = refl
none_blocks (Days first last ∷ notes) none = none_blocks notes none
none_blocks (Finding question set ∷ notes) none = none_blocks notes none
none_blocks (Undecided question learnt ∷ notes) none = let clash : true ≡ false = none in absurd (cc)

told_apart : (fault left : Bool) → left ≡ false → cond fault verdicts.Blocked (cond left verdicts.Undecided verdicts.Releasable) ≢ verdicts.Undecided
told_apart true left none h = absurd (cc)
told_apart false left none h = absurd (cc)

pub none_undecided : (notes : List Note) → list_any was_left notes ≡ false → verdict_of notes ≢ verdicts.Undecided
none_undecided notes none = told_apart (list_any is_fault notes) (list_any is_left notes) (none_blocks notes none)

pub report_decided : (i : Inquiry) (notes : List Note) → i.book.first ≤ i.book.last → IsAmple i.book i.budget → IsReport i notes → verdict_of notes ≢ verdicts.Undecided
report_decided i notes term ample h = none_undecided notes (report_none i notes term ample h)
