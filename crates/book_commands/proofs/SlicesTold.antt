-- A right report tells of as many slices as the book has, and so of no more than 64.
use Rattle.std.proofs.Common.{◌≡◌, ◌≤◌, suc, ◌+◌, List, [], ◌∷◌, ◌++◌, length, refl, ap, ◌∙◌, arith}
use Rattle.book_model.specs.declared.record.Slice.{Slice}
use Rattle.clausify.specs.Coded.{slice_asked}
use Rattle.clausify.specs.declared.question.Asked.{Asked}
use Rattle.derivation.proofs.LimitLaws.{few_slices, slices_from_within}
use Rattle.findings.specs.Notes.{Inquiry, OwnNotes, AfterVoid, QuestionNotes, SliceNotes, IsReport}
use Rattle.findings.specs.declared.report.Note.{Note as Told}
use Rattle.findings.specs.declared.report.Note.TheVariants.{Days, Finding, Undecided}
use Rattle.pb_base.specs.declared.limits.TheConstants.{MOST_SLICES}
use Rattle.pb_base.specs.InParts.{InParts}
use Rattle.book_commands.specs.Logged.{slices_told}

told-append : (own later : List Told) → slices_told (own ++ later) ≡ slices_told own + slices_told later
told-append [] later = omega arith
told-append (Days first last ∷ own) later = let rest : slices_told (own ++ later) ≡ slices_told own + slices_told later = told-append own later in omega (arith, rest)
told-append (Finding question set ∷ own) later = told-append own later
told-append (Undecided question learnt ∷ own) later = told-append own later

-- the notes on a question begin no slice
of_question : (i : Inquiry) (s : Slice) (a : Asked) (own : List Told) → OwnNotes i s a own → slices_told own ≡ 0
of_question i s a [] h = refl
of_question i s a (Days first last ∷ []) h = absurd h
of_question i s a (Finding question set ∷ []) h = refl
of_question i s a (Undecided question learnt ∷ []) h = refl
of_question i s a (note ∷ second ∷ own) h = absurd h

of_questions : (i : Inquiry) (s : Slice) (asked : List Asked) (notes : List Told) → InParts (OwnNotes i s) asked notes → slices_told notes ≡ 0
of_questions i s [] notes h = ap slices_told h
of_questions i s (a ∷ asked) notes h =
    let own : slices_told h.0 ≡ 0 = of_question i s a h.0 h.3 in
    let later : slices_told h.1 ≡ 0 = of_questions i s asked h.1 h.4 in
    let whole : slices_told notes ≡ slices_told h.0 + slices_told h.1 = ap slices_told h.2 ∙ told-append h.0 h.1 in
    omega (arith, own, later, whole)

behind_void : (i : Inquiry) (s : Slice) (later : List Asked) (own notes : List Told) → AfterVoid i s later own notes → slices_told notes ≡ 0
behind_void i s later [] notes h = of_questions i s _ notes h
behind_void i s later (note ∷ own) notes h = ap slices_told h

of_all_questions : (i : Inquiry) (s : Slice) (asked : List Asked) (notes : List Told) → QuestionNotes i s asked notes → slices_told notes ≡ 0
of_all_questions i s [] notes h = ap slices_told h
of_all_questions i s (void ∷ later) notes h =
    let own : slices_told h.0 ≡ 0 = of_question i s void h.0 h.3 in
    let others : slices_told h.1 ≡ 0 = behind_void i s later h.0 h.1 h.4 in
    let whole : slices_told notes ≡ slices_told h.0 + slices_told h.1 = ap slices_told h.2 ∙ told-append h.0 h.1 in
    omega (arith, own, others, whole)

of_slice : (i : Inquiry) (s : Slice) (notes : List Told) → SliceNotes i s notes → slices_told notes ≡ 1
of_slice i s [] h = absurd h
of_slice i s (note ∷ notes) h =
    ap (λ (n : Told). slices_told (n ∷ notes)) h.0 ∙ ap suc (of_all_questions i s (slice_asked i.book s.first) notes h.1)

of_slices : (i : Inquiry) (slices : List Slice) (notes : List Told) → InParts (SliceNotes i) slices notes → slices_told notes ≡ length slices
of_slices i [] notes h = ap slices_told h
of_slices i (s ∷ slices) notes h =
    let own : slices_told h.0 ≡ 1 = of_slice i s h.0 h.3 in
    let later : slices_told h.1 ≡ length slices = of_slices i slices h.1 h.4 in
    let whole : slices_told notes ≡ slices_told h.0 + slices_told h.1 = ap slices_told h.2 ∙ told-append h.0 h.1 in
    omega (arith, own, later, whole)

pub few_told : (i : Inquiry) (notes : List Told) → IsReport i notes → slices_told notes ≤ MOST_SLICES
few_told i notes h =
    let count : slices_told notes ≡ length h.slices = of_slices i h.slices notes h.each in
    let few : length h.slices ≤ 64 = few_slices i.book h.slices (slices_from_within i.book h.slices h.within) in
    omega (arith, count, few)
