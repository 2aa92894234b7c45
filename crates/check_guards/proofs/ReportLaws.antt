-- What the contract of a report says to its reader, note by note.
use Rattle.std.proofs.Common.{◌≡◌, ℕ, ◌≤◌, Bool, true, List, [], ◌∷◌, ◌++◌, Option, Some, None, Result, Ok, Err, sym, subst, arith}
use Rattle.std.specs.Prelude.{◌↔◌, IfOk, IsSome, filter}
use Rattle.std.specs.List.{AllByRecursion}
use Rattle.std.proofs.lemmas.Bool.{and_from, le-leb}
use Rattle.std.proofs.lemmas.List.Elements.{Contains-append_left, Contains-append_right}
use Rattle.pb_base.specs.InParts.{InParts}
use Rattle.book_model.specs.Activity.{is_within}
use Rattle.book_model.specs.Contents.{Contents}
use Rattle.book_model.specs.Slices.{all_slices}
use Rattle.book_model.specs.Sound.{IsReleasable}
use Rattle.book_model.specs.declared.record.Slice.{Slice}
use Rattle.clausify.specs.Coded.{slice_asked}
use Rattle.clausify.specs.declared.question.Asked.{Asked}
use Rattle.clausify.specs.declared.question.Question.{Question}
use Rattle.derivation.proofs.LimitLaws.{slices_are_all, slices_from_within}
use Rattle.findings.specs.Findings.{IsFinding}
use Rattle.findings.specs.Notes.{AfterVoid, Inquiry, IsNoteOf, IsReport, OwnNotes, QuestionNotes, SliceNotes, is_asked, verdict_of}
use Rattle.findings.specs.declared.check.Checked.{Checked}
use Rattle.findings.specs.declared.report.Note.{Note}
use Rattle.findings.specs.declared.report.Note.TheVariants.{Days, Finding, Undecided}
use Rattle.findings.specs.declared.report.Verdict.TheVariants as verdicts
use Rattle.check_guards.specs.Reports.{HasDays, HasGoodSet, IsGoodThen, IsRefutedThen, NotesOn}

certified_good : (b : Contents) (cert : Option (List ℕ)) (notes : List Note) (day : ℕ) → IsSome cert ↔ (verdict_of notes ≡ verdicts.Releasable)
    → (verdict_of notes ≡ verdicts.Releasable → IsReleasable b) → IsSome cert → b.first ≤ day → day ≤ b.last → HasGoodSet b day
certified_good b cert notes day just released there low high =
    let found = (released (just.0 there)).not_void day low high in record { set = found.0; good = found.1 }

pub certified : {E : Type 0} (b : Contents) (result : Result Checked E) → IfOk result (λ c. IsSome c.cert ↔ (verdict_of c.report ≡ verdicts.Releasable))
    → IfOk result (λ c. verdict_of c.report ≡ verdicts.Releasable → IsReleasable b)
    → IfOk result (λ c. IsSome c.cert → (day : ℕ) → b.first ≤ day → day ≤ b.last → HasGoodSet b day)
certified b (Ok c) just released = λ there day low high. certified_good b c.cert c.report day just released there low high
certified b (Err why) just released = tt

-- ---- the days of the slices

first_days : (i : Inquiry) (s : Slice) (own : List Note) → SliceNotes i s own → HasDays own s
first_days i s [] h = absurd h
first_days i s (note ∷ own) h = (0, omega arith, h.0)

more_days : (own later all : List Note) (ss : List Slice) → all ≡ own ++ later → AllByRecursion (HasDays later) ss → AllByRecursion (HasDays all) ss
more_days own later all [] is h = tt
more_days own later all (s ∷ ss) is h =
    (subst (λ (ns : List Note). HasDays ns s) (sym is) (Contains-append_right own later (Days s.first s.last) h.0), more_days own later all ss is h.1)

days_in : (i : Inquiry) (slices : List Slice) (notes : List Note) → InParts (SliceNotes i) slices notes → AllByRecursion (HasDays notes) slices
days_in i [] notes h = tt
days_in i (s ∷ slices) notes h = (
  subst (λ (ns : List Note). HasDays ns s) (sym h.2) (Contains-append_left h.0 h.1 (Days s.first s.last) (first_days i s h.0 h.3)),
  more_days h.0 h.1 notes slices h.2 (days_in i slices h.1 h.4),
)

pub has_all_days : (i : Inquiry) (notes : List Note) → IsReport i notes → AllByRecursion (HasDays notes) (all_slices i.book)
has_all_days i notes h =
    subst (AllByRecursion (HasDays notes)) (sym (slices_are_all i.book h.slices (slices_from_within i.book h.slices h.within))) (days_in i h.slices notes h.each)

-- ---- the notes on questions

module _ (P : ℕ → ℕ → Question → Option (List Bool) → Type 0) (i : Inquiry)
    (right : (s : Slice) (question : Question) (set : Option (List Bool)) → IsFinding i.book s question set → P s.first s.last question set) where
  -- a note on a question of the slice
  abbrev IsOwn : Slice → Note → Type 0
  IsOwn s (Days first last) = ⊥
  IsOwn s (Finding question set) = P s.first s.last question set
  IsOwn s (Undecided question learnt) = Unit {0}

  joined : (s : Slice) (xs ys : List Note) → AllByRecursion (IsOwn s) xs → AllByRecursion (IsOwn s) ys → AllByRecursion (IsOwn s) (xs ++ ys)
  joined s [] ys h k = k
  joined s (x ∷ xs) ys h k = (h.0, joined s xs ys h.1 k)

  note_own : (s : Slice) (a : Asked) (note : Note) → IsNoteOf i s a note → IsOwn s note
  note_own s a (Days first last) h = h
  note_own s a (Finding question set) h = subst (λ (q : Question). P s.first s.last q set) (sym h.0) (right s a.question set h.1)
  note_own s a (Undecided question learnt) h = tt

  own_own : (s : Slice) (a : Asked) (own : List Note) → OwnNotes i s a own → AllByRecursion (IsOwn s) own
  own_own s a [] h = tt
  own_own s a (note ∷ []) h = (note_own s a note h, tt)
  own_own s a (note ∷ second ∷ own) h = absurd h

  parts_own : (s : Slice) (asked : List Asked) (notes : List Note) → InParts (OwnNotes i s) asked notes → AllByRecursion (IsOwn s) notes
  parts_own s [] notes h = subst (AllByRecursion (IsOwn s)) (sym h) tt
  parts_own s (a ∷ asked) notes h =
      subst (AllByRecursion (IsOwn s)) (sym h.2) (joined s h.0 h.1 (own_own s a h.0 h.3) (parts_own s asked h.1 h.4))

  after_own : (s : Slice) (later : List Asked) (own notes : List Note) → AfterVoid i s later own notes → AllByRecursion (IsOwn s) notes
  after_own s later [] notes h = parts_own s (filter (λ (a : Asked). is_asked i.ask a.question) later) notes h
  after_own s later (note ∷ own) notes h = subst (AllByRecursion (IsOwn s)) (sym h) tt

  questions_own : (s : Slice) (asked : List Asked) (notes : List Note) → QuestionNotes i s asked notes → AllByRecursion (IsOwn s) notes
  questions_own s [] notes h = subst (AllByRecursion (IsOwn s)) (sym h) tt
  questions_own s (void ∷ later) notes h =
      subst (AllByRecursion (IsOwn s)) (sym h.2) (joined s h.0 h.1 (own_own s void h.0 h.3) (after_own s later h.0 h.1 h.4))

  -- behind whichever days
  abbrev Anywhere : List Note → Type 0
  Anywhere notes = (first last : ℕ) → NotesOn P first last notes

  then_rest : (s : Slice) (own rest : List Note) → AllByRecursion (IsOwn s) own → Anywhere rest → NotesOn P s.first s.last (own ++ rest)
  then_rest s [] rest h k = k s.first s.last
  then_rest s (Days first last ∷ own) rest h k = absurd h.0
  then_rest s (Finding question set ∷ own) rest h k = (h.0, then_rest s own rest h.1 k)
  then_rest s (Undecided question learnt ∷ own) rest h k = then_rest s own rest h.1 k

  slice_then : (s : Slice) (notes rest : List Note) → SliceNotes i s notes → Anywhere rest → Anywhere (notes ++ rest)
  slice_then s [] rest h k = absurd h
  slice_then s (note ∷ notes) rest h k = λ first last.
      subst (λ (n : Note). NotesOn P first last (n ∷ (notes ++ rest))) (sym h.0)
      (then_rest s notes rest (questions_own s (slice_asked i.book s.first) notes h.1) k)

  each_slice : (slices : List Slice) (notes : List Note) → InParts (SliceNotes i) slices notes → Anywhere notes
  each_slice [] notes h = λ first last. subst (NotesOn P first last) (sym h) tt
  each_slice (s ∷ slices) notes h = λ first last.
      subst (NotesOn P first last) (sym h.2) (slice_then s h.0 h.1 h.3 (each_slice slices h.1 h.4) first last)

within_by : (first last day : ℕ) → first ≤ day → day ≤ last → is_within first last day ≡ true
within_by first last day low high = and_from _ _ (le-leb first day low) (le-leb day last high)

finding_good : (b : Contents) (s : Slice) (question : Question) (set : Option (List Bool)) → IsFinding b s question set → IsGoodThen b s.first s.last question set
finding_good b s question None h = tt
finding_good b s question (Some x) h = λ day low high. h.1.good_then day (within_by s.first s.last day low high)

finding_refuted : (b : Contents) (s : Slice) (question : Question) (set : Option (List Bool)) → IsFinding b s question set → IsRefutedThen b s.first s.last question set
finding_refuted b s question None h = λ day low high x good meets.
    h.1 (record { day = day; not_before = low; not_after = high; set = x; is_good_then = good; meets_goal = meets })
finding_refuted b s question (Some x) h = tt

good_then : (i : Inquiry) (notes : List Note) → IsReport i notes → NotesOn (IsGoodThen i.book) 1 0 notes
good_then i notes h = each_slice (IsGoodThen i.book) i (finding_good i.book) h.slices notes h.each 1 0

refuted_then : (i : Inquiry) (notes : List Note) → IsReport i notes → NotesOn (IsRefutedThen i.book) 1 0 notes
refuted_then i notes h = each_slice (IsRefutedThen i.book) i (finding_refuted i.book) h.slices notes h.each 1 0

-- of what a call returns
pub each_good : {E : Type 0} (i : Inquiry) (result : Result (List Note) E) → IfOk result (IsReport i) → IfOk result (NotesOn (IsGoodThen i.book) 1 0)
each_good i (Ok notes) h = good_then i notes h
each_good i (Err why) h = tt

pub each_refuted : {E : Type 0} (i : Inquiry) (result : Result (List Note) E) → IfOk result (IsReport i) → IfOk result (NotesOn (IsRefutedThen i.book) 1 0)
each_refuted i (Ok notes) h = refuted_then i notes h
each_refuted i (Err why) h = tt
