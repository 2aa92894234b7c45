-- Two reports on one book tell the same, but for sets.
use Rattle.std.proofs.Common.{◌≡◌, ℕ, zero, suc, ◌<◌, ◌≤◌, Bool, true, false, ◌||◌, cond, List, [], ◌∷◌, ◌++◌, Option, Some, None, Result, Ok, Err, All, map, refl, sym, ap, ap₂, subst, ◌∙◌, arith}
use Rattle.std.specs.List.{filter, list_any}
use Rattle.std.proofs.lemmas.Bool.{or_parts, true≢false}
use Rattle.std.proofs.lemmas.List.{map-append}
use Rattle.std.proofs.lemmas.List.Folds.{list_any-append}
use Rattle.pb_base.specs.InParts as base
use Rattle.pb_base.specs.InParts.{InParts}
use Rattle.book_model.specs.Contents.{Contents}
use Rattle.book_model.specs.Slices.{IsOrdered}
use Rattle.book_model.specs.declared.record.Slice.{Slice}
use Rattle.clausify.specs.Coded.{slice_asked}
use Rattle.clausify.specs.declared.question.Asked.{Asked}
use Rattle.clausify.specs.declared.question.Question.{Question}
use Rattle.findings.specs.Findings.{NeedsNoNote}
use Rattle.findings.specs.Notes.{AfterVoid, Inquiry, IsNoteOf, IsReport, OwnNotes, QuestionNotes, SliceNotes, is_asked, is_fault, is_left, verdict_of}
use Rattle.findings.specs.declared.report.Ask.{Ask}
use Rattle.findings.specs.declared.report.Note.{Note}
use Rattle.findings.specs.declared.report.Note.TheVariants.{Days, Finding, Undecided}
use Rattle.findings.specs.declared.report.Verdict.TheVariants as verdicts
use Rattle.findings.proofs.BookLaws.{ordered_within}
use Rattle.findings.proofs.Lifting.{has_from_meets}
use Rattle.shared_work.proofs.SameLaws.{parts_same}
use Rattle.question_laws.specs.Reports.{AreDecided, TellSame, bare, inquiry_of, is_undecided}

-- parts of things of which something is known
parts_with : {X N : Type 0} (G : X → Type 0) (P : X → List N → Type 0) (xs : List X) (notes : List N) → All G xs → InParts P xs notes
    → base.InParts (λ (x : X) (own : List N). G x × P x own) xs notes
parts_with G P [] notes all h = h
parts_with G P (x ∷ xs) notes all h =
    (h.0, h.1, h.2, (all zero x (omega arith), h.3), parts_with G P xs h.1 (λ n d low. all (suc n) d (omega (arith, low))) h.4)

parts_plain : {X N : Type 0} (P : X → List N → Type 0) (xs : List X) (notes : List N) → InParts P xs notes → base.InParts P xs notes
parts_plain P [] notes h = h
parts_plain P (x ∷ xs) notes h = (h.0, h.1, h.2, h.3, parts_plain P xs h.1 h.4)

decided_parts : (all own later : List Note) → all ≡ own ++ later → AreDecided all → AreDecided own × AreDecided later
decided_parts all own later is none =
    or_parts (list_any is_undecided own) (list_any is_undecided later) (sym (ap (list_any is_undecided) is ∙ list_any-append is_undecided own later) ∙ none)

module _ (b : Contents) (ask : Ask) (budget other : ℕ) where
  module _ (s : Slice) (order : IsOrdered s) where
    -- a question of which nothing is wrong has no finding
    noted : (limit : ℕ) (a : Asked) (note : Note) → NeedsNoNote b s a.question → IsNoteOf (inquiry_of b ask limit) s a note → is_undecided note ≡ false → ⊥
    noted limit a (Days first last) fine h none = h
    noted limit a (Finding question (Some x)) fine h none = fine.no_fault h.1.0 (has_from_meets b s a.question x order h.1.1)
    noted limit a (Finding question None) fine h none = h.1.1 (fine.some_set h.1.0)
    noted limit a (Undecided question learnt) fine h none = true≢false none

    same_note : (a : Asked) (note next : Note) → IsNoteOf (inquiry_of b ask budget) s a note → IsNoteOf (inquiry_of b ask other) s a next
        → is_undecided note ≡ false → is_undecided next ≡ false → bare note ≡ bare next
    same_note a (Days first last) next h k none also = absurd h
    same_note a (Undecided question learnt) next h k none also = absurd (true≢false none)
    same_note a (Finding question set) (Days first last) h k none also = absurd k
    same_note a (Finding question set) (Undecided asked learnt) h k none also = absurd (true≢false also)
    same_note a (Finding question set) (Finding asked shown) h k none also = ap (λ (q : Question). Finding q None) (h.0 ∙ sym k.0)

    one_decided : (note : Note) → AreDecided (note ∷ []) → is_undecided note ≡ false
    one_decided note none = (or_parts (is_undecided note) false none).0

    same_own : (a : Asked) (own next : List Note) → OwnNotes (inquiry_of b ask budget) s a own → OwnNotes (inquiry_of b ask other) s a next
        → AreDecided own → AreDecided next → map bare own ≡ map bare next
    same_own a [] [] h k none also = refl
    same_own a [] (next ∷ []) h k none also = absurd (noted other a next h k (one_decided next also))
    same_own a [] (next ∷ second ∷ more) h k none also = absurd k
    same_own a (note ∷ []) [] h k none also = absurd (noted budget a note k h (one_decided note none))
    same_own a (note ∷ []) (next ∷ []) h k none also =
        ap (λ (n : Note). n ∷ []) (same_note a note next h k (one_decided note none) (one_decided next also))
    same_own a (note ∷ []) (next ∷ second ∷ more) h k none also = absurd k
    same_own a (note ∷ second ∷ more) next h k none also = absurd h

    same_after : (later : List Asked) (own next ms ns : List Note) → map bare own ≡ map bare next → AfterVoid (inquiry_of b ask budget) s later own ms
        → AfterVoid (inquiry_of b ask other) s later next ns → AreDecided ms → AreDecided ns → map bare ms ≡ map bare ns
    same_after later [] [] ms ns same h k none also =
        let asked : List Asked = filter (λ (a : Asked). is_asked ask a.question) later in
        parts_same (OwnNotes (inquiry_of b ask budget) s) (OwnNotes (inquiry_of b ask other) s) is_undecided bare same_own asked ms ns
        (parts_plain (OwnNotes (inquiry_of b ask budget) s) asked ms h) (parts_plain (OwnNotes (inquiry_of b ask other) s) asked ns k) none also
    same_after later [] (next ∷ others) ms ns same h k none also = absurd (cc)
    same_after later (note ∷ own) [] ms ns same h k none also = absurd (cc)
    same_after later (note ∷ own) (next ∷ others) ms ns same h k none also = ap (map bare) h ∙ sym (ap (map bare) k)

    same_questions : (asked : List Asked) (ms ns : List Note) → QuestionNotes (inquiry_of b ask budget) s asked ms
        → QuestionNotes (inquiry_of b ask other) s asked ns → AreDecided ms → AreDecided ns → map bare ms ≡ map bare ns
    same_questions [] ms ns h k none also = ap (map bare) h ∙ sym (ap (map bare) k)
    same_questions (void ∷ later) ms ns h k none also =
        let first = decided_parts ms h.0 h.1 h.2 none in
        let second = decided_parts ns k.0 k.1 k.2 also in
        let own : map bare h.0 ≡ map bare k.0 = same_own void h.0 k.0 h.3 k.3 first.0 second.0 in
        ap (map bare) h.2 ∙ map-append bare h.0 h.1
        ∙ ap₂ (λ (xs ys : List Note). xs ++ ys) own (same_after later h.0 k.0 h.1 k.1 own h.4 k.4 first.1 second.1)
        ∙ sym (map-append bare k.0 k.1) ∙ sym (ap (map bare) k.2)

  abbrev OrderedNotes : ℕ → Slice → List Note → Type 0
  OrderedNotes limit s own = IsOrdered s × SliceNotes (inquiry_of b ask limit) s own

  same_slice : (s : Slice) (own next : List Note) → OrderedNotes budget s own → OrderedNotes other s next → AreDecided own → AreDecided next
      → map bare own ≡ map bare next
  same_slice s [] next h k none also = absurd h.1
  same_slice s (note ∷ own) [] h k none also = absurd k.1
  same_slice s (note ∷ own) (next ∷ others) h k none also =
      let first = or_parts (is_undecided note) (list_any is_undecided own) none in
      let second = or_parts (is_undecided next) (list_any is_undecided others) also in
      ap₂ (λ (n : Note) (ns : List Note). bare n ∷ ns) (h.1.0 ∙ sym k.1.0)
      (same_questions s h.0 (slice_asked b s.first) own others h.1.1 k.1.1 first.1 second.1)

-- the verdict hangs on no set
bare_fault : (note : Note) → is_fault note ≡ is_fault (bare note)
bare_fault (Days first last) = refl
bare_fault (Finding question set) = refl
bare_fault (Undecided question learnt) = refl

bare_left : (note : Note) → is_left note ≡ is_left (bare note)
bare_left (Days first last) = refl
bare_left (Finding question set) = refl
bare_left (Undecided question learnt) = refl

any_bare : (p : Note → Bool) → ((note : Note) → p note ≡ p (bare note)) → (notes : List Note) → list_any p notes ≡ list_any p (map bare notes)
any_bare p same [] = refl
any_bare p same (note ∷ notes) = ap₂ (λ (s t : Bool). s || t) (same note) (any_bare p same notes)

verdict_bare : (notes : List Note) → verdict_of notes ≡ verdict_of (map bare notes)
verdict_bare notes =
    ap₂ (λ (f l : Bool). cond f verdicts.Blocked (cond l verdicts.Undecided verdicts.Releasable)) (any_bare is_fault bare_fault notes) (any_bare is_left bare_left notes)

abbrev listed : {E : Type 0} → Result (List Slice) E → List Slice
listed (Ok slices) = slices
listed (Err e) = []

pub same_report : (b : Contents) (ask : Ask) (budget other : ℕ) (one two : List Note) → b.first ≤ b.last → IsReport (inquiry_of b ask budget) one
    → IsReport (inquiry_of b ask other) two → AreDecided one → AreDecided two → TellSame one two
same_report b ask budget other one two term h k none also =
    let slices : h.slices ≡ k.slices = sym (ap listed h.within) ∙ ap listed k.within in
    let ordered : All IsOrdered k.slices = ordered_within b k.slices term k.within in
    let parts = parts_with IsOrdered (SliceNotes (inquiry_of b ask budget)) k.slices one ordered
    (subst (λ (ss : List Slice). InParts (SliceNotes (inquiry_of b ask budget)) ss one) slices h.each) in
    let others = parts_with IsOrdered (SliceNotes (inquiry_of b ask other)) k.slices two ordered k.each in
    let same : map bare one ≡ map bare two =
    parts_same (OrderedNotes b ask budget other budget) (OrderedNotes b ask budget other other) is_undecided bare (same_slice b ask budget other) k.slices one two parts others none also in
    record { notes = same; verdict = verdict_bare one ∙ ap verdict_of same ∙ sym (verdict_bare two) }
