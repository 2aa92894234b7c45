-- What comes of one question, and of one question more.
use Rattle.std.proofs.Common.{◌≡◌, ℕ, zero, suc, ◌+◌, ◌<◌, ◌≤◌, Bool, true, false, ◌||◌, List, [], ◌∷◌, ◌++◌, Some, None, length, take, get_or, refl, sym, ap, subst, ◌∙◌, inl, inr, arith, append_assoc, append-nil, length-append}
use Rattle.std.specs.List.{filter, list_any}
use Rattle.std.proofs.lemmas.Bool.{cases_Bool, cond_both, cond-true, cond-false, true≢false, or_parts}
use Rattle.std.proofs.lemmas.List.{get_or_append_left, take_more, length-take-le}
use Rattle.std.proofs.lemmas.List.Elements.{filter-append}
use Rattle.std.proofs.lemmas.List.Folds.{list_any-append}
use Rattle.std.proofs.lemmas.Slice.Zip.{all_zipped_more}
use Rattle.pb_base.specs.InParts.{InParts}
use Rattle.book_model.specs.Contents.{Contents}
use Rattle.book_model.specs.declared.record.Slice.{Slice}
use Rattle.clause_pool.specs.Derivation.{Derivation}
use Rattle.clause_pool.specs.PoolContents.{PoolContents}
use Rattle.clausify.specs.Coded.{slice_clauses, slice_variables}
use Rattle.clausify.specs.Questions.{HasSet, QuestionFits, is_to_close}
use Rattle.clausify.specs.declared.question.Asked.{Asked}
use Rattle.clausify.specs.declared.question.Question.{Question}
use Rattle.clausify.specs.declared.question.Question.TheVariants.{Void, Necessary, Inadmissible, Superfluous, Ambiguous, Uncovered}
use Rattle.derivation.specs.After.{closes}
use Rattle.derivation.specs.Showing.{Closes, AllClosed}
use Rattle.derivation.specs.Stage.{to_close}
use Rattle.derivation.specs.declared.closing.Closing.{Closing}
use Rattle.derivation.specs.declared.closing.ToClose.{ToClose}
use Rattle.chains.specs.Growth.{ClosedAt, Extends}
use Rattle.findings.specs.Findings.{MeetsThrough}
use Rattle.findings.specs.Notes.{Inquiry, OwnNotes, is_asked, is_blocking}
use Rattle.findings.specs.Outcomes.{outcome_of_set, outcome_of_clause, notes_of, closings_of}
use Rattle.findings.specs.Answering.{IsOutcome, AreTold, stops}
use Rattle.findings.specs.declared.outcome.Outcome.{Outcome}
use Rattle.findings.specs.declared.outcome.Outcome.TheVariants.{Fine, Closed, Noted}
use Rattle.findings.specs.declared.outcome.Told.{Told}
use Rattle.findings.specs.declared.report.Ask.{Ask}
use Rattle.findings.specs.declared.report.Ask.TheVariants as asks
use Rattle.findings.specs.declared.report.Note.TheVariants.{Finding, Undecided}
use Rattle.clausify.proofs.ItemLaws.{or_nothing}
use Rattle.slice_chains.proofs.ClosingLaws.{closed_one}
use Rattle.solver.specs.Answer.{IsSpent}
use Rattle.findings.proofs.Lifting.{has_from_meets}

-- a question of the book blocks a release just where it has to be closed
blocking_fits : (b : Contents) (q : Question) → QuestionFits b q → is_blocking q ≡ is_to_close q
blocking_fits b Void h = absurd h
blocking_fits b (Necessary place) h = refl
blocking_fits b (Inadmissible place) h = refl
blocking_fits b (Superfluous variant) h = refl
blocking_fits b (Ambiguous position first second) h = refl
blocking_fits b (Uncovered position) h = refl

not_blocking : (q : Question) → is_blocking q ≡ false → is_to_close q ≡ false
not_blocking Void h = refl
not_blocking (Necessary place) h = refl
not_blocking (Inadmissible place) h = refl
not_blocking (Superfluous variant) h = refl
not_blocking (Ambiguous position first second) h = h
not_blocking (Uncovered position) h = h

-- a question that isn't asked isn't one to close
not_asked : (ask : Ask) (q : Question) → is_asked ask q ≡ false → is_to_close q ≡ false
not_asked asks.All q h = absurd (true≢false h)
not_asked asks.Blocking q h = not_blocking q h

pub set_outcome : (i : Inquiry) (s : Slice) (clauses : List (List ℕ)) (a : Asked) (x : List Bool) → s.first ≤ s.last → QuestionFits i.book a.question
    → MeetsThrough i.book s a.question x → IsOutcome i s clauses a (outcome_of_set a.question x)
set_outcome i s clauses a x order fits met =
    cond_both (is_to_close a.question) (Noted (Finding a.question (Some x))) Fine (IsOutcome i s clauses a)
    (λ must. ((refl, (must, met)), ap (λ (t : Bool). t || false) (blocking_fits i.book a.question fits) ∙ or_nothing (is_to_close a.question)))
    (λ may. (record { no_fault = λ must. absurd (true≢false (sym must ∙ may)); some_set = λ _. has_from_meets i.book s a.question x order met }, may))

pub clause_outcome : (i : Inquiry) (s : Slice) (clauses : List (List ℕ)) (a : Asked) (at : ℕ) → QuestionFits i.book a.question
    → (HasSet i.book s a.question → ⊥) → ClosedAt clauses a.goal at → IsOutcome i s clauses a (outcome_of_clause a.question at)
clause_outcome i s clauses a at fits none closed =
    cond_both (is_to_close a.question) (Closed at) (Noted (Finding a.question None)) (IsOutcome i s clauses a)
    (λ must. (record { no_fault = λ _. none; some_set = λ may. absurd (true≢false (sym must ∙ may)) }, must, closed))
    (λ may. ((refl, (may, none)), ap (λ (t : Bool). t || false) (blocking_fits i.book a.question fits) ∙ or_nothing (is_to_close a.question)))

pub left_outcome : (i : Inquiry) (s : Slice) (clauses : List (List ℕ)) (a : Asked) (learnt : PoolContents) → QuestionFits i.book a.question
    → IsSpent (slice_variables i.book s.first) (slice_clauses i.book s.first) (a.goal ∷ []) i.budget learnt.clauses
    → IsOutcome i s clauses a (Noted (Undecided a.question learnt))
left_outcome i s clauses a learnt fits spent = ((refl, spent), blocking_fits i.book a.question fits)

-- one part more at the end
pub parts_more : {X N : Type 0} (IsPart : X → List N → Type 0) (xs : List X) (x : X) (notes own : List N) → InParts IsPart xs notes → IsPart x own
    → InParts IsPart (xs ++ x ∷ []) (notes ++ own)
parts_more {X} {N} IsPart [] x notes own h part = (own, [], ap (λ (l : List N). l ++ own) h ∙ sym (append-nil own), part, refl)
parts_more {X} {N} IsPart (y ∷ xs) x notes own h part =
    (h.0, h.1 ++ own, ap (λ (l : List N). l ++ own) h.2 ∙ append_assoc h.0 h.1 own, h.3, parts_more IsPart xs x h.1 own h.4 part)

pub own_notes : (i : Inquiry) (s : Slice) (clauses : List (List ℕ)) (a : Asked) (outcome : Outcome) → IsOutcome i s clauses a outcome → OwnNotes i s a (notes_of outcome)
own_notes i s clauses a Fine h = h.0
own_notes i s clauses a (Closed at) h = h.0
own_notes i s clauses a (Noted note) h = h.0

to_close-append : (n : ℕ) (asked : List Asked) (a : Asked) → to_close n (asked ++ a ∷ []) ≡ to_close n asked ++ to_close (length asked + n) (a ∷ [])
to_close-append n [] a = let e : n ≡ zero + n = omega arith in ap (λ (k : ℕ). to_close k (a ∷ [])) e
to_close-append n (b ∷ asked) a =
    let w : ToClose = record { question = n; goal = b.goal } in
    let e : length asked + suc n ≡ length (b ∷ asked) + n = omega arith in
    let rest : to_close (suc n) (asked ++ a ∷ []) ≡ to_close (suc n) asked ++ to_close (length (b ∷ asked) + n) (a ∷ []) =
    to_close-append (suc n) asked a ∙ ap (λ (k : ℕ). to_close (suc n) asked ++ to_close k (a ∷ [])) e in
    elim (cases_Bool (is_to_close b.question)) [
      | inl must ↦
          cond-true (is_to_close b.question) (w ∷ to_close (suc n) (asked ++ a ∷ [])) (to_close (suc n) (asked ++ a ∷ [])) must
          ∙ ap (λ (l : List ToClose). w ∷ l) rest
          ∙ sym (ap (λ (l : List ToClose). l ++ to_close (length (b ∷ asked) + n) (a ∷ [])) (cond-true (is_to_close b.question) (w ∷ to_close (suc n) asked) (to_close (suc n) asked) must))
      | inr may ↦
          cond-false (is_to_close b.question) (w ∷ to_close (suc n) (asked ++ a ∷ [])) (to_close (suc n) (asked ++ a ∷ [])) may
          ∙ rest
          ∙ sym (ap (λ (l : List ToClose). l ++ to_close (length (b ∷ asked) + n) (a ∷ [])) (cond-false (is_to_close b.question) (w ∷ to_close (suc n) asked) (to_close (suc n) asked) may))
    ]

-- closings stay so over a growing kernel
closed_grown : (clauses more : List (List ℕ)) (asked : List ToClose) (closings : List Closing) → AllClosed clauses asked closings → AllClosed (clauses ++ more) asked closings
closed_grown clauses more [] [] h = tt
closed_grown clauses more [] (c ∷ cs) h = h
closed_grown clauses more (w ∷ ws) [] h = h
closed_grown clauses more (w ∷ ws) (c ∷ cs) h = (
  record {
    question = h.0.question;
    place = omega (arith, h.0.place, length-append clauses more);
    closed = ap (closes w.goal) (get_or_append_left clauses more [] c.at h.0.place) ∙ h.0.closed;
  },
  closed_grown clauses more ws cs h.1,
)

-- a question that has not to be closed adds none
none_to_close : (n : ℕ) (a : Asked) → is_to_close a.question ≡ false → to_close n (a ∷ []) ≡ []
none_to_close n a may = cond-false (is_to_close a.question) (record { question = n; goal = a.goal } ∷ []) [] may

same_closed : (clauses : List (List ℕ)) (n : ℕ) (asked : List Asked) (a : Asked) (closings : List Closing) → is_to_close a.question ≡ false
    → AllClosed clauses (to_close n asked) closings → AllClosed clauses (to_close n (asked ++ a ∷ [])) closings
same_closed clauses n asked a closings may h =
    subst (λ (l : List ToClose). AllClosed clauses l closings)
    (sym (to_close-append n asked a ∙ ap (λ (l : List ToClose). to_close n asked ++ l) (none_to_close (length asked + n) a may) ∙ append-nil (to_close n asked))) h

closed_more : (clauses : List (List ℕ)) (n : ℕ) (asked : List Asked) (a : Asked) (closings : List Closing) (at : ℕ) → is_to_close a.question ≡ true
    → ClosedAt clauses a.goal at → AllClosed clauses (to_close n asked) closings
    → AllClosed clauses (to_close n (asked ++ a ∷ [])) (closings ++ record { question = length asked + n; at = at } ∷ [])
closed_more clauses n asked a closings at must here h =
    let w : ToClose = record { question = length asked + n; goal = a.goal } in
    subst (λ (l : List ToClose). AllClosed clauses l (closings ++ record { question = length asked + n; at = at } ∷ []))
    (sym (to_close-append n asked a ∙ ap (λ (l : List ToClose). to_close n asked ++ l) (cond-true (is_to_close a.question) (w ∷ []) [] must)))
    (all_zipped_more (Closes clauses) (to_close n asked) closings w (record { question = length asked + n; at = at }) h (closed_one clauses (length asked + n) a.goal at here))

-- the closings behind one question more, where no note stops the release
closings_more : (i : Inquiry) (s : Slice) (clauses : List (List ℕ)) (n : ℕ) (asked : List Asked) (a : Asked) (closings : List Closing) (outcome : Outcome)
    → IsOutcome i s clauses a outcome → list_any stops (notes_of outcome) ≡ false → AllClosed clauses (to_close n asked) closings
    → AllClosed clauses (to_close n (asked ++ a ∷ [])) (closings ++ closings_of (length asked + n) outcome)
closings_more i s clauses n asked a closings Fine h free so_far =
    subst (AllClosed clauses (to_close n (asked ++ a ∷ []))) (sym (append-nil closings)) (same_closed clauses n asked a closings h.1 so_far)
closings_more i s clauses n asked a closings (Closed at) h free so_far = closed_more clauses n asked a closings at h.1 h.2 so_far
closings_more i s clauses n asked a closings (Noted note) h free so_far =
    let may : is_to_close a.question ≡ false = sym h.1 ∙ (or_parts (stops note) false free).0 in
    subst (AllClosed clauses (to_close n (asked ++ a ∷ []))) (sym (append-nil closings)) (same_closed clauses n asked a closings may so_far)

abbrev is_asked_of : Inquiry → Asked → Bool
is_asked_of i a = is_asked i.ask a.question

pub told_more : (i : Inquiry) (s : Slice) (asked : List Asked) (a : Asked) (old new : Told) (clauses more : List (List ℕ)) (outcome : Outcome)
    → is_asked i.ask a.question ≡ true → AreTold i s asked old clauses → IsOutcome i s (clauses ++ more) a outcome
    → new.notes.items ≡ old.notes.items ++ notes_of outcome → new.closed.items ≡ old.closed.items ++ closings_of (length asked + 1) outcome
    → AreTold i s (asked ++ a ∷ []) new (clauses ++ more)
told_more i s asked a old new clauses more outcome must so_far h notes closed = record {
  notes =
      subst (InParts (OwnNotes i s) (filter (is_asked_of i) (asked ++ a ∷ []))) (sym notes)
      (subst (λ (l : List Asked). InParts (OwnNotes i s) l (old.notes.items ++ notes_of outcome))
      (sym (filter-append (is_asked_of i) asked (a ∷ []) ∙ ap (λ (l : List Asked). filter (is_asked_of i) asked ++ l) (cond-true (is_asked i.ask a.question) (a ∷ []) [] must)))
      (parts_more (OwnNotes i s) (filter (is_asked_of i) asked) a old.notes.items (notes_of outcome) so_far.notes (own_notes i s (clauses ++ more) a outcome h)));
  closed = λ free.
      let parts = or_parts (list_any stops old.notes.items) (list_any stops (notes_of outcome))
      (sym (list_any-append stops old.notes.items (notes_of outcome)) ∙ ap (list_any stops) (sym notes) ∙ free) in
      subst (AllClosed (clauses ++ more) (to_close 1 (asked ++ a ∷ []))) (sym closed)
      (closings_more i s (clauses ++ more) 1 asked a old.closed.items outcome h parts.1
      (closed_grown clauses more (to_close 1 asked) old.closed.items (so_far.closed parts.0)));
}

pub told_same : (i : Inquiry) (s : Slice) (asked : List Asked) (a : Asked) (told : Told) (clauses : List (List ℕ))
    → is_asked i.ask a.question ≡ false → AreTold i s asked told clauses → AreTold i s (asked ++ a ∷ []) told clauses
told_same i s asked a told clauses not so_far = record {
  notes =
      subst (λ (l : List Asked). InParts (OwnNotes i s) l told.notes.items)
      (sym (filter-append (is_asked_of i) asked (a ∷ []) ∙ ap (λ (l : List Asked). filter (is_asked_of i) asked ++ l) (cond-false (is_asked i.ask a.question) (a ∷ []) [] not) ∙ append-nil (filter (is_asked_of i) asked)))
      so_far.notes;
  closed = λ free. same_closed clauses 1 asked a told.closed.items (not_asked i.ask a.question not) (so_far.closed free);
}

-- nothing is told of no question
pub told_none : (i : Inquiry) (s : Slice) (told : Told) (clauses : List (List ℕ)) → told.notes.items ≡ [] → told.closed.items ≡ [] → AreTold i s [] told clauses
told_none i s told clauses notes closed = record { notes = notes; closed = λ _. subst (AllClosed clauses []) (sym closed) tt }

taken_next : (later : List Asked) (k : ℕ) (a : Asked) → k < length later → a ≡ get_or later k a → take (k + 1) later ≡ take k later ++ a ∷ []
taken_next later k a below is = take_more later k a below ∙ ap (λ (x : Asked). take k later ++ x ∷ []) (sym is)

taken_count : (later : List Asked) (k : ℕ) → k < length later → length (take k later) ≡ k
taken_count later k below = length-take-le k later (omega arith)

-- the same of the first k + 1 questions of a list, where the kernel may have grown
pub told_next : (i : Inquiry) (s : Slice) (later : List Asked) (k : ℕ) (a : Asked) (old new : Told) (before after : Derivation) (outcome : Outcome)
    → k < length later → a ≡ get_or later k a → is_asked i.ask a.question ≡ true → AreTold i s (take k later) old before.clauses → Extends before after
    → IsOutcome i s after.clauses a outcome → new.notes.items ≡ old.notes.items ++ notes_of outcome → new.closed.items ≡ old.closed.items ++ closings_of (k + 1) outcome
    → AreTold i s (take (k + 1) later) new after.clauses
told_next i s later k a old new before after outcome below is must so_far more h notes closed =
    subst (λ (qs : List Asked). AreTold i s qs new after.clauses) (sym (taken_next later k a below is))
    (subst (AreTold i s (take k later ++ a ∷ []) new) (sym more.clauses)
    (told_more i s (take k later) a old new before.clauses more.more outcome must so_far
    (subst (λ (cs : List (List ℕ)). IsOutcome i s cs a outcome) more.clauses h) notes
    (closed ∙ ap (λ (n : ℕ). old.closed.items ++ closings_of (n + 1) outcome) (sym (taken_count later k below)))))

pub told_next_same : (i : Inquiry) (s : Slice) (later : List Asked) (k : ℕ) (a : Asked) (told : Told) (clauses : List (List ℕ))
    → k < length later → a ≡ get_or later k a → is_asked i.ask a.question ≡ false → AreTold i s (take k later) told clauses → AreTold i s (take (k + 1) later) told clauses
told_next_same i s later k a told clauses below is not so_far =
    subst (λ (qs : List Asked). AreTold i s qs told clauses) (sym (taken_next later k a below is)) (told_same i s (take k later) a told clauses not so_far)
