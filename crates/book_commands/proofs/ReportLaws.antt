-- A report that says that its book can be released is right in it.
use Rattle.std.proofs.Common.{◌≡◌, ℕ, suc, ◌-◌, ◌≤◌, Bool, true, false, ◌||◌, List, [], ◌∷◌, Some, All, map, refl, sym, ap, subst, ◌∙◌, arith, inl, inr}
use Rattle.std.specs.List.{AllByRecursion, list_any, filter, flat_map, slice_get}
use Rattle.std.proofs.lemmas.List.Folds.{list_any-append}
use Rattle.std.proofs.lemmas.Bool.{cases_Bool, or_parts, and_from, true≢false, false≢true, cond-true, cond-false, le-leb}
use Rattle.std.proofs.lemmas.Option.{slice_get_within, get_or_from_slice_get}
use Rattle.pb_base.specs.Rule.{holds}
use Rattle.pb_base.specs.InParts.{InParts}
use Rattle.book_model.specs.Activity.{is_within}
use Rattle.book_model.specs.Contents.{Contents}
use Rattle.book_model.specs.Book.{IsBook}
use Rattle.book_model.specs.Good.{is_good}
use Rattle.book_model.specs.Slices.{AreAlike, IsOrdered, IsSteady, days_in, days_of}
use Rattle.book_model.specs.Sound.{IsReleasable, is_sound}
use Rattle.book_model.specs.declared.record.Slice.{Slice}
use Rattle.book_model.proofs.DaysAlike.{slice_of, good_alike, sound_alike, good_on_slice}
use Rattle.book_model.proofs.SliceLaws.{slices_partition}
use Rattle.clause_pool.proofs.ClauseLaws.{all_found}
use Rattle.clausify.specs.Coded.{slice_asked}
use Rattle.clausify.specs.Questions.{HasSet, goal, questions, is_to_close}
use Rattle.clausify.specs.declared.question.Asked.{Asked}
use Rattle.clausify.specs.declared.question.Question.{Question}
use Rattle.clausify.specs.declared.question.Question.TheVariants.{Void, Necessary, Inadmissible, Superfluous, Ambiguous, Uncovered}
use Rattle.clausify.proofs.QuestionLaws.{asked_in_order}
use Rattle.derivation.specs.Limits.{slices_within}
use Rattle.derivation.proofs.LimitLaws.{slices_are_all, slices_from_within}
use Rattle.derivation.proofs.Refuted.{AllRefuted}
use Rattle.derivation.proofs.Fit.{sound_from_refuted}
use Rattle.findings.specs.Notes.{Inquiry, IsReport, SliceNotes, AfterVoid, OwnNotes, IsNoteOf, is_asked, is_blocking, verdict_of}
use Rattle.findings.specs.Answering.{stops}
use Rattle.findings.specs.Findings.{NeedsNoNote}
use Rattle.findings.specs.declared.report.Ask.{Ask}
use Rattle.findings.specs.declared.report.Ask.TheVariants as ask
use Rattle.findings.specs.declared.report.Note.{Note}
use Rattle.findings.specs.declared.report.Note.TheVariants.{Days, Finding, Undecided}
use Rattle.findings.specs.declared.report.Verdict.TheVariants as verdicts
use Rattle.book_commands.specs.Checks.{IsReported, RepliesWithin, inquiry}
use Rattle.book_commands.specs.RunReply.{RunReply, report_reply}
use Rattle.findings.proofs.BookLaws.{steady_within, ordered_within, free_when_releasable}

-- no note stops a release
abbrev IsFree : List Note → Type 0
IsFree notes = list_any stops notes ≡ false

module _ {X : Type 0} (IsPart : X → List Note → Type 0) where
  -- each part of notes that are free is free
  free_parts : (xs : List X) (notes : List Note) → InParts IsPart xs notes → IsFree notes → AllByRecursion (λ x. (own : List Note) × IsPart x own × IsFree own) xs
  free_parts [] notes h free = tt
  free_parts (x ∷ xs) notes h free =
      let parts = or_parts (list_any stops h.0) (list_any stops h.1) (sym (list_any-append stops h.0 h.1) ∙ ap (list_any stops) (sym h.2) ∙ free) in
      ((h.0, h.3, parts.0), free_parts xs h.1 h.4 parts.1)

close_blocks : (q : Question) → is_to_close q ≡ true → is_blocking q ≡ true
close_blocks Void h = refl
close_blocks (Necessary place) h = h
close_blocks (Inadmissible place) h = h
close_blocks (Superfluous variant) h = h
close_blocks (Ambiguous position first second) h = h
close_blocks (Uncovered position) h = h

-- a question that blocks has no note where the notes are free
note_stops : (i : Inquiry) (s : Slice) (a : Asked) (note : Note) → IsNoteOf i s a note → is_blocking a.question ≡ true → IsFree (note ∷ []) → ⊥
note_stops i s a (Days first last) h blocks free = h
note_stops i s a (Finding question set) h blocks free =
    let is : is_blocking question ≡ true = ap is_blocking h.0 ∙ blocks in
    true≢false (sym (ap (λ (t : Bool). (t || false) || false) is) ∙ free)
note_stops i s a (Undecided question learnt) h blocks free =
    let is : is_blocking question ≡ true = ap is_blocking h.0 ∙ blocks in
    true≢false (sym (ap (λ (t : Bool). (false || t) || false) is) ∙ free)

none_needed : (i : Inquiry) (s : Slice) (a : Asked) (own : List Note) → OwnNotes i s a own → is_blocking a.question ≡ true → IsFree own → NeedsNoNote i.book s a.question
none_needed i s a [] h blocks free = h
none_needed i s a (note ∷ []) h blocks free = absurd (note_stops i s a note h blocks free)
none_needed i s a (note ∷ second ∷ notes) h blocks free = absurd h

-- a question that a release asks has no set
abbrev IsShut : Contents → Slice → Asked → Type 0
IsShut b s a = is_to_close a.question ≡ true → HasSet b s a.question → ⊥

asked_anyway : (how : Ask) (q : Question) → is_to_close q ≡ true → is_asked how q ≡ false → ⊥
asked_anyway ask.All q close none = true≢false none
asked_anyway ask.Blocking q close none = true≢false (sym (close_blocks q close) ∙ none)

all_shut : (i : Inquiry) (s : Slice) (asked : List Asked) → AllByRecursion (λ a. (own : List Note) × OwnNotes i s a own × IsFree own) (filter (λ a. is_asked i.ask a.question) asked)
    → AllByRecursion (IsShut i.book s) asked
all_shut i s [] h = tt
all_shut i s (a ∷ rest) h =
    let P : Asked → Type 0 = λ a. (own : List Note) × OwnNotes i s a own × IsFree own in
    let left : List Asked = filter (λ a. is_asked i.ask a.question) rest in
    elim (cases_Bool (is_asked i.ask a.question)) [
      | inl asked ↦
          let k : AllByRecursion P (a ∷ left) = subst (λ (qs : List Asked). AllByRecursion P qs) (cond-true (is_asked i.ask a.question) (a ∷ left) left asked) h in
          ((λ close. (none_needed i s a k.0.0 k.0.1 (close_blocks a.question close) k.0.2).no_fault close), all_shut i s rest k.1)
      | inr none ↦
          let k : AllByRecursion P left = subst (λ (qs : List Asked). AllByRecursion P qs) (cond-false (is_asked i.ask a.question) (a ∷ left) left none) h in
          ((λ close. absurd (asked_anyway i.ask a.question close none)), all_shut i s rest k)
    ]

-- a slice whose notes are free has a good set, and none where a release asks for none
record IsDone (b : Contents) (s : Slice) : Type 0 where
  has : HasSet b s Void
  shut : AllByRecursion (IsShut b s) (slice_asked b s.first)

after_void : (i : Inquiry) (s : Slice) (void : Asked) (later : List Asked) (own others : List Note) → void.question ≡ Void → OwnNotes i s void own → AfterVoid i s later own others
    → IsFree own → IsFree others → HasSet i.book s Void × AllByRecursion (IsShut i.book s) later
after_void i s void later [] others is h after free rest = (
  subst (HasSet i.book s) is (h.some_set (ap is_to_close is)),
  all_shut i s later (free_parts (OwnNotes i s) (filter (λ a. is_asked i.ask a.question) later) others after rest),
)
after_void i s void later (note ∷ []) others is h after free rest = absurd (note_stops i s void note h (ap is_blocking is) free)
after_void i s void later (note ∷ second ∷ notes) others is h after free rest = absurd h

slice_done : (i : Inquiry) (s : Slice) (notes : List Note) → SliceNotes i s notes → IsFree notes → IsDone i.book s
slice_done i s [] h free = absurd h
slice_done i s (note ∷ notes) h free =
    let q = h.1 in
    let own = (or_parts (stops note) (list_any stops notes) free).1 in
    let parts = or_parts (list_any stops q.0) (list_any stops q.1) (sym (list_any-append stops q.0 q.1) ∙ ap (list_any stops) (sym q.2) ∙ own) in
    let done = after_void i s _ _ q.0 q.1 refl q.3 q.4 parts.0 parts.1 in
    record { has = done.0; shut = ((λ close. absurd (false≢true close)), done.1) }

all_done : (i : Inquiry) (slices : List Slice) → AllByRecursion (λ s. (own : List Note) × SliceNotes i s own × IsFree own) slices → AllByRecursion (IsDone i.book) slices
all_done i [] h = tt
all_done i (s ∷ ss) h = (slice_done i s h.0.0 h.0.1 h.0.2, all_done i ss h.1)

refuted_by : (b : Contents) (s : Slice) (x : List Bool) (asked : List Asked) → s.first ≤ s.last → is_good b s.first x ≡ true → AllByRecursion (IsShut b s) asked
    → AllRefuted b s.first x (map (λ (q : Asked). q.question) asked)
refuted_by b s x [] order good h = tt
refuted_by b s x (a ∷ asked) order good h = (
  (λ close. elim (cases_Bool (holds (goal b s.first a.question) x)) [
    | inl met ↦ absurd (h.0 close (record { day = s.first; not_before = omega arith; not_after = order; set = x; is_good_then = good; meets_goal = met }))
    | inr none ↦ none
  ]),
  refuted_by b s x asked order good h.1,
)

within_from : (s : Slice) (day : ℕ) → s.first ≤ day → day ≤ s.last → is_within s.first s.last day ≡ true
within_from s day from until = and_from _ _ (le-leb s.first day from) (le-leb day s.last until)

steady_at : (b : Contents) (slices : List Slice) → All (IsSteady b) slices → (k : ℕ) (s : Slice) → slice_get slices k ≡ Some s → IsSteady b s
steady_at b slices all k s is = subst (IsSteady b) (get_or_from_slice_get slices k s s is) (all k s (slice_get_within slices k s is))

ordered_at : (slices : List Slice) → All IsOrdered slices → (k : ℕ) (s : Slice) → slice_get slices k ≡ Some s → IsOrdered s
ordered_at slices all k s is = subst IsOrdered (get_or_from_slice_get slices k s s is) (all k s (slice_get_within slices k s is))

good_in : (b : Contents) (s : Slice) (day other : ℕ) (x : List Bool) → AreAlike b day s.first → is_good b other x ≡ is_good b s.first x → is_good b other x ≡ true → is_good b day x ≡ true
good_in b s day other x alike same good = good_alike b day s.first x alike ∙ sym same ∙ good

sound_in : (b : Contents) (s : Slice) (day : ℕ) (x : List Bool) → AreAlike b day s.first → AllRefuted b s.first x (questions b s.first) → is_sound b day x ≡ true
sound_in b s day x alike h = sound_alike b day s.first x alike ∙ sound_from_refuted b s.first x h

pub releasable_by_report : (i : Inquiry) (notes : List Note) → IsBook i.book → IsReport i notes → verdict_of notes ≡ verdicts.Releasable → IsReleasable i.book
releasable_by_report i notes book report verdict =
    let b : Contents = i.book in
    let slices : List Slice = report.slices in
    let parts : flat_map days_in slices ≡ days_of b =
    subst (λ l. flat_map days_in l ≡ days_of b) (slices_are_all b slices (slices_from_within b slices report.within)) (slices_partition b book.term) in
    let steady = steady_at b slices (steady_within b slices book.term report.within) in
    let ordered = ordered_at slices (ordered_within b slices book.term report.within) in
    let done : AllByRecursion (IsDone b) slices = all_done i slices (free_parts (SliceNotes i) slices notes report.each (free_when_releasable notes verdict)) in
    record {
      not_void = λ day from until.
          let s = slice_of b slices b.first (suc (b.last - b.first)) day parts steady from (omega arith) in
          let d = all_found (IsDone b) slices s.place s.slice done s.is_there in
          let then = good_on_slice b s.slice d.has.day d.has.set (steady s.place s.slice s.is_there) (within_from s.slice d.has.day d.has.not_before d.has.not_after) in
          (d.has.set, good_in b s.slice day d.has.day d.has.set s.alike then d.has.is_good_then);
      sound = λ day from until x good.
          let s = slice_of b slices b.first (suc (b.last - b.first)) day parts steady from (omega arith) in
          let d = all_found (IsDone b) slices s.place s.slice done s.is_there in
          let first = sym (good_alike b day s.slice.first x s.alike) ∙ good in
          sound_in b s.slice day x s.alike
          (subst (AllRefuted b s.slice.first x) (asked_in_order b s.slice.first)
          (refuted_by b s.slice x (slice_asked b s.slice.first) (ordered s.place s.slice s.is_there) first d.shut));
    }

-- what is told of such a report
pub reported : (b : Contents) (budget : ℕ) (report : List Note) (reply : RunReply) → IsBook b → IsReport (inquiry ask.All budget b) report → reply ≡ report_reply b report
    → RepliesWithin (slices_within b) (IsReported (inquiry ask.All budget b)) reply
reported b budget report reply book right told =
    subst (λ limits. RepliesWithin limits (IsReported (inquiry ask.All budget b)) reply) (sym right.within)
    (record { report = report; is_right = right; released = releasable_by_report (inquiry ask.All budget b) report book right; answer = told })
