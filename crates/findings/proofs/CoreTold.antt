-- What is told of questions that are asked over a slice's core.
use Rattle.std.proofs.Common.{inl, inr, ◌≡◌, ℕ, ◌+◌, ◌<◌, ◌≤◌, Bool, true, false, List, [], ◌∷◌, ◌++◌, None, length, map, take, drop, get_or, refl, sym, ap, subst, ◌∙◌, append-nil}
use Rattle.std.specs.List.{filter}
use Rattle.std.proofs.lemmas.Bool.{cases_Bool, cond_both, cond-true, cond-false, true≢false}
use Rattle.std.proofs.lemmas.List.{take_more}
use Rattle.std.proofs.lemmas.List.Elements.{filter-append}
use Rattle.pb_base.specs.InParts.{InParts}
use Rattle.book_model.specs.Contents.{Contents}
use Rattle.book_model.specs.declared.record.Slice.{Slice}
use Rattle.clausify.specs.Coded.{slice_asked}
use Rattle.clausify.specs.Questions.{HasSet, QuestionFits, is_to_close}
use Rattle.clausify.specs.declared.question.Asked.{Asked}
use Rattle.clausify.specs.declared.question.Question.{Question}
use Rattle.clausify.specs.declared.question.Question.TheVariants.{Void}
use Rattle.clausify.proofs.QuestionLaws.{asked_in_order}
use Rattle.findings.specs.Findings.{MeetsThrough}
use Rattle.findings.specs.Notes.{Inquiry, OwnNotes, SliceNotes, is_asked}
use Rattle.findings.specs.Outcomes.{outcome_of_set, notes_of}
use Rattle.findings.specs.Core.{AreToldOf, OwnOf, later_questions, outcome_of_none}
use Rattle.findings.specs.declared.outcome.Outcome.{Outcome}
use Rattle.findings.specs.declared.outcome.Outcome.TheVariants.{Fine, Noted}
use Rattle.findings.specs.declared.report.Note.{Note}
use Rattle.findings.specs.declared.report.Note.TheVariants.{Days, Finding}
use Rattle.findings.proofs.SliceLaws.{notes_with_set, notes_void}
use Rattle.findings.proofs.ToldLaws.{own_notes, parts_more, set_outcome}

pub set_told : (i : Inquiry) (s : Slice) (q : Question) (x : List Bool) → s.first ≤ s.last → QuestionFits i.book q → MeetsThrough i.book s q x → OwnOf i s q (notes_of (outcome_of_set q x))
set_told i s q x order fits met = λ a is.
    subst (λ (p : Question). OwnNotes i s a (notes_of (outcome_of_set p x))) is
    (own_notes i s [] a (outcome_of_set a.question x)
    (set_outcome i s [] a x order (subst (QuestionFits i.book) (sym is) fits) (subst (λ (p : Question). MeetsThrough i.book s p x) (sym is) met)))

pub none_told : (i : Inquiry) (s : Slice) (q : Question) → (HasSet i.book s q → ⊥) → OwnOf i s q (notes_of (outcome_of_none q))
none_told i s q none = λ a is.
    let never : HasSet i.book s a.question → ⊥ = λ has_set. none (subst (HasSet i.book s) is has_set) in
    cond_both (is_to_close q) Fine (Noted (Finding q None)) (λ (o : Outcome). OwnNotes i s a (notes_of o))
    (λ must. record { no_fault = λ _. never; some_set = λ may. absurd (true≢false (sym must ∙ ap is_to_close (sym is) ∙ may)) })
    (λ may. (sym is, (ap is_to_close is ∙ may, never)))

pub told_next_of : (i : Inquiry) (s : Slice) (qs : List Question) (k : ℕ) (q : Question) (notes more own : List Note) → k < length qs → q ≡ get_or qs k q → is_asked i.ask q ≡ true
    → AreToldOf i s (take k qs) notes → OwnOf i s q own → more ≡ notes ++ own → AreToldOf i s (take (k + 1) qs) more
told_next_of i s qs k q notes more own below is must so_far h all =
    let next : take (k + 1) qs ≡ take k qs ++ q ∷ [] = take_more qs k q below ∙ ap (λ (p : Question). take k qs ++ p ∷ []) (sym is) in
    subst (λ (ps : List Question). AreToldOf i s ps more) (sym next)
    (subst (AreToldOf i s (take k qs ++ q ∷ [])) (sym all)
    (subst (λ (ps : List Question). InParts (OwnOf i s) ps (notes ++ own))
    (sym (filter-append (is_asked i.ask) (take k qs) (q ∷ []) ∙ ap (λ (l : List Question). filter (is_asked i.ask) (take k qs) ++ l) (cond-true (is_asked i.ask q) (q ∷ []) [] must)))
    (parts_more (OwnOf i s) (filter (is_asked i.ask) (take k qs)) q notes own so_far h)))

pub told_same_of : (i : Inquiry) (s : Slice) (qs : List Question) (k : ℕ) (q : Question) (notes : List Note) → k < length qs → q ≡ get_or qs k q → is_asked i.ask q ≡ false
    → AreToldOf i s (take k qs) notes → AreToldOf i s (take (k + 1) qs) notes
told_same_of i s qs k q notes below is may so_far =
    let next : take (k + 1) qs ≡ take k qs ++ q ∷ [] = take_more qs k q below ∙ ap (λ (p : Question). take k qs ++ p ∷ []) (sym is) in
    subst (λ (ps : List Question). AreToldOf i s ps notes) (sym next)
    (subst (λ (ps : List Question). InParts (OwnOf i s) ps notes)
    (sym (filter-append (is_asked i.ask) (take k qs) (q ∷ []) ∙ ap (λ (l : List Question). filter (is_asked i.ask) (take k qs) ++ l) (cond-false (is_asked i.ask q) (q ∷ []) [] may)
    ∙ append-nil (filter (is_asked i.ask) (take k qs))))
    so_far)

abbrev question_of : Asked → Question
question_of a = a.question

-- notes on questions are notes on those of a slice
parts_of_questions : (i : Inquiry) (s : Slice) (asked : List Asked) (notes : List Note) → AreToldOf i s (map question_of asked) notes
    → InParts (OwnNotes i s) (filter (λ (a : Asked). is_asked i.ask a.question) asked) notes
parts_of_questions i s [] notes h = h
parts_of_questions i s (a ∷ asked) notes h =
    let own : List Asked = filter (λ (a : Asked). is_asked i.ask a.question) asked in
    let later : List Question = filter (is_asked i.ask) (map question_of asked) in
    elim (cases_Bool (is_asked i.ask a.question)) [
      | inl must ↦
          let parts = subst (λ (ps : List Question). InParts (OwnOf i s) ps notes) (cond-true (is_asked i.ask a.question) (a.question ∷ later) later must) h in
          subst (λ (qs : List Asked). InParts (OwnNotes i s) qs notes) (sym (cond-true (is_asked i.ask a.question) (a ∷ own) own must))
          (parts.0, parts.1, parts.2, parts.3 a refl, parts_of_questions i s asked parts.1 parts.4)
      | inr may ↦
          subst (λ (qs : List Asked). InParts (OwnNotes i s) qs notes) (sym (cond-false (is_asked i.ask a.question) (a ∷ own) own may))
          (parts_of_questions i s asked notes
          (subst (λ (ps : List Question). InParts (OwnOf i s) ps notes) (cond-false (is_asked i.ask a.question) (a.question ∷ later) later may) h))
    ]

later_asked : (b : Contents) (day : ℕ) → map question_of (drop 1 (slice_asked b day)) ≡ later_questions b day
later_asked b day = ap (λ (qs : List Question). drop 1 qs) (asked_in_order b day)

pub slice_of_core : (i : Inquiry) (s : Slice) (own notes : List Note) → HasSet i.book s Void
    → AreToldOf i s (later_questions i.book s.first) own → notes ≡ Days s.first s.last ∷ own → SliceNotes i s notes
slice_of_core i s own notes has_set told all =
    subst (SliceNotes i s) (sym all)
    (notes_with_set i s own has_set
    (parts_of_questions i s (drop 1 (slice_asked i.book s.first)) own (subst (λ (qs : List Question). AreToldOf i s qs own) (sym (later_asked i.book s.first)) told)))

pub void_of_core : (i : Inquiry) (s : Slice) (notes : List Note) → (HasSet i.book s Void → ⊥) → notes ≡ Days s.first s.last ∷ Finding Void None ∷ [] → SliceNotes i s notes
void_of_core i s notes none all = subst (SliceNotes i s) (sym all) (notes_void i s (Finding Void None) (refl, (refl, none)))
