-- What the contract of a report on supplementing rules says to its reader, note by note.
use Rattle.std.proofs.Common.{◌≡◌, ℕ, ◌≤◌, Bool, true, false, not, ◌&&◌, cond, leb, List, [], ◌∷◌, ◌++◌, Option, Some, None, Result, Ok, Err, length, refl, sym, ap, subst, ◌∙◌, arith}
use Rattle.std.specs.Prelude.{IfOk}
use Rattle.std.specs.List.{AllByRecursion, list_any}
use Rattle.std.proofs.lemmas.Bool.{and_from, and_parts, le-leb, not-true, or_parts, true≢false}
use Rattle.std.proofs.lemmas.List.Elements.{Contains-append_left, Contains-append_right}
use Rattle.std.proofs.lemmas.List.Folds.{list_any-append}
use Rattle.pb_base.specs.InParts.{InParts}
use Rattle.pb_base.specs.Results.{and_then, unless}
use Rattle.book_model.specs.Activity.{is_within}
use Rattle.book_model.specs.Contents.{Contents}
use Rattle.book_model.specs.Good.{fires, is_constructible}
use Rattle.book_model.specs.Slices.{all_slices, slices_of}
use Rattle.book_model.specs.declared.record.Slice.{Slice}
use Rattle.book_model.specs.declared.slicing.LimitFault.{LimitFault}
use Rattle.book_model.specs.declared.slicing.LimitFault.TheVariants.{Slices}
use Rattle.supplement_findings.specs.Ends.{with_code}
use Rattle.supplement_findings.specs.Limits.{first_over, slices_within}
use Rattle.supplement_findings.specs.Notes.{HasOneEndThrough, IsNoteOf, IsReport, OwnNotes, SliceNotes, SupplementInquiry, is_finding, is_undecided}
use Rattle.supplement_findings.specs.Questions.{meets, questions, rule_at}
use Rattle.supplement_findings.specs.declared.question.SupplementQuestion.{SupplementQuestion}
use Rattle.supplement_findings.specs.declared.question.SupplementQuestion.TheVariants.{Breaks, Swaps}
use Rattle.supplement_findings.specs.declared.report.SupplementNote.{SupplementNote}
use Rattle.supplement_findings.specs.declared.report.SupplementNote.TheVariants.{Days, Finding, Undecided}
use Rattle.check_guards.specs.RuleReports.{AreCalm, BreaksThen, HasDays, IsCalm, NothingShows, NotesOn}

-- ---- the slices of a report are those of the book's term

within_from : (all slices : List Slice) (over : Option LimitFault) → unless over (Ok all) ≡ Ok slices → all ≡ slices
within_from all slices None h = cc
within_from all slices (Some fault) h = absurd (cc)

limit_from : (b : Contents) (t : Bool) (all slices : List Slice) (fault : LimitFault)
    → and_then (cond t (Ok all) (Err fault)) (λ ss. unless (first_over 0 b ss) (Ok ss)) ≡ Ok slices → all ≡ slices
limit_from b true all slices fault h = within_from all slices (first_over 0 b all) h
limit_from b false all slices fault h = absurd (cc)

all_of : (b : Contents) (slices : List Slice) → slices_within b ≡ Ok slices → all_slices b ≡ slices
unfolding slices_of
all_of b slices h = limit_from b (leb (length (all_slices b)) 64) (all_slices b) slices (Slices (length (all_slices b))) h

-- ---- their days

first_days : (i : SupplementInquiry) (s : Slice) (own : List SupplementNote) → SliceNotes i s own → HasDays own s
first_days i s own h = subst (λ (ns : List SupplementNote). HasDays ns s) (sym h.days_first) (0, omega arith, refl)

more_days : (own later all : List SupplementNote) (ss : List Slice) → all ≡ own ++ later → AllByRecursion (HasDays later) ss → AllByRecursion (HasDays all) ss
more_days own later all [] is h = tt
more_days own later all (s ∷ ss) is h =
    (subst (λ (ns : List SupplementNote). HasDays ns s) (sym is) (Contains-append_right own later (Days s.first s.last) h.0), more_days own later all ss is h.1)

days_in : (i : SupplementInquiry) (slices : List Slice) (notes : List SupplementNote) → InParts (SliceNotes i) slices notes → AllByRecursion (HasDays notes) slices
days_in i [] notes h = tt
days_in i (s ∷ slices) notes h = (
  subst (λ (ns : List SupplementNote). HasDays ns s) (sym h.2) (Contains-append_left h.0 h.1 (Days s.first s.last) (first_days i s h.0 h.3)),
  more_days h.0 h.1 notes slices h.2 (days_in i slices h.1 h.4),
)

pub has_all_days : (i : SupplementInquiry) (notes : List SupplementNote) → IsReport i notes → AllByRecursion (HasDays notes) (all_slices i.book)
has_all_days i notes h = subst (AllByRecursion (HasDays notes)) (sym (all_of i.book h.slices h.within)) (days_in i h.slices notes h.each)

-- ---- where nothing is told, no set shows anything

within_by : (first last day : ℕ) → first ≤ day → day ≤ last → is_within first last day ≡ true
within_by first last day low high = and_from _ _ (le-leb first day low) (le-leb day last high)

calm_parts : (own later all : List SupplementNote) → all ≡ own ++ later → IsCalm all → IsCalm own × IsCalm later
calm_parts own later all is h =
    let found = or_parts (list_any is_finding own) (list_any is_finding later) (sym (ap (list_any is_finding) is ∙ list_any-append is_finding own later) ∙ h.0) in
    let left = or_parts (list_any is_undecided own) (list_any is_undecided later) (sym (ap (list_any is_undecided) is ∙ list_any-append is_undecided own later) ∙ h.1) in
    ((found.0, left.0), (found.1, left.1))

module _ (i : SupplementInquiry) (s : Slice) where
  own_calm : (q : SupplementQuestion) (own : List SupplementNote) → OwnNotes i s q own → IsCalm own → (own ≡ []) × NothingShows i.book s q
  own_calm q [] h calm = (refl, (λ day low high x counted. h day (within_by s.first s.last day low high) x counted))
  own_calm q (Days first last ∷ []) h calm = absurd h
  own_calm q (Finding question set ∷ []) h calm = absurd (true≢false calm.0)
  own_calm q (Undecided question learnt ∷ []) h calm = absurd (true≢false calm.1)
  own_calm q (note ∷ second ∷ own) h calm = absurd h

  none_told : (qs : List SupplementQuestion) (notes : List SupplementNote) → InParts (OwnNotes i s) qs notes → IsCalm notes
      → (notes ≡ []) × AllByRecursion (NothingShows i.book s) qs
  none_told [] notes h calm = (h, tt)
  none_told (q ∷ qs) notes h calm =
      let parts = calm_parts h.0 h.1 notes h.2 calm in
      let own = own_calm q h.0 h.3 parts.0 in
      let later = none_told qs h.1 h.4 parts.1 in
      (h.2 ∙ ap (λ (ns : List SupplementNote). ns ++ h.1) own.0 ∙ later.0, (own.1, later.1))

  -- the notes of the slice behind its days
  behind_days : (own notes : List SupplementNote) → notes ≡ Days s.first s.last ∷ own → IsCalm notes → IsCalm own
  behind_days own notes is calm = (calm_parts (Days s.first s.last ∷ []) own notes is calm).1

  slice_calm : (notes : List SupplementNote) → SliceNotes i s notes → IsCalm notes → AreCalm i.book s
  slice_calm notes h calm = (none_told (questions i.book s.first) h.own h.answers (behind_days h.own notes h.days_first calm)).1

  slice_end : (notes : List SupplementNote) → SliceNotes i s notes → IsCalm notes → HasOneEndThrough i.book s
  slice_end notes h calm = h.one_end (none_told (questions i.book s.first) h.own h.answers (behind_days h.own notes h.days_first calm)).0

all_calm : (i : SupplementInquiry) (slices : List Slice) (notes : List SupplementNote) → InParts (SliceNotes i) slices notes → IsCalm notes
    → AllByRecursion (AreCalm i.book) slices
all_calm i [] notes h calm = tt
all_calm i (s ∷ slices) notes h calm =
    let parts = calm_parts h.0 h.1 notes h.2 calm in (slice_calm i s h.0 h.3 parts.0, all_calm i slices h.1 h.4 parts.1)

all_ends : (i : SupplementInquiry) (slices : List Slice) (notes : List SupplementNote) → InParts (SliceNotes i) slices notes → IsCalm notes
    → AllByRecursion (HasOneEndThrough i.book) slices
all_ends i [] notes h calm = tt
all_ends i (s ∷ slices) notes h calm =
    let parts = calm_parts h.0 h.1 notes h.2 calm in (slice_end i s h.0 h.3 parts.0, all_ends i slices h.1 h.4 parts.1)

pub are_calm : (i : SupplementInquiry) (notes : List SupplementNote) → IsReport i notes → IsCalm notes → AllByRecursion (AreCalm i.book) (all_slices i.book)
are_calm i notes h calm = subst (AllByRecursion (AreCalm i.book)) (sym (all_of i.book h.slices h.within)) (all_calm i h.slices notes h.each calm)

pub has_one_end : (i : SupplementInquiry) (notes : List SupplementNote) → IsReport i notes → IsCalm notes
    → AllByRecursion (HasOneEndThrough i.book) (all_slices i.book)
has_one_end i notes h calm = subst (AllByRecursion (HasOneEndThrough i.book)) (sym (all_of i.book h.slices h.within)) (all_ends i h.slices notes h.each calm)

-- ---- findings on their days

module _ (i : SupplementInquiry) where
  abbrev IsOwn : Slice → SupplementNote → Type 0
  IsOwn s (Days first last) = ⊥
  IsOwn s (Finding question set) = BreaksThen i.book s.first s.last question set
  IsOwn s (Undecided question learnt) = Unit {0}

  joined : (s : Slice) (xs ys : List SupplementNote) → AllByRecursion (IsOwn s) xs → AllByRecursion (IsOwn s) ys → AllByRecursion (IsOwn s) (xs ++ ys)
  joined s [] ys h k = k
  joined s (x ∷ xs) ys h k = (h.0, joined s xs ys h.1 k)

  shown_breaks : (s : Slice) (q : SupplementQuestion) (x : List Bool) → ((day : ℕ) → is_within s.first s.last day ≡ true → meets i.book day q x ≡ true)
      → BreaksThen i.book s.first s.last q x
  shown_breaks s (Breaks place) x h = λ day low high.
      let rule = rule_at i.book place in
      let broken = is_constructible i.book day (with_code rule.code x) in
      let parts = and_parts (is_constructible i.book day x && fires day x rule) (not broken) (h day (within_by s.first s.last day low high)) in
      record { before = (and_parts (is_constructible i.book day x) (fires day x rule) parts.0).0; after = not-true broken parts.1 }
  shown_breaks s (Swaps one other) x h = tt

  note_own : (s : Slice) (q : SupplementQuestion) (note : SupplementNote) → IsNoteOf i s q note → IsOwn s note
  note_own s q (Days first last) h = h
  note_own s q (Finding question set) h =
      subst (λ (p : SupplementQuestion). BreaksThen i.book s.first s.last p set) (sym h.0) (shown_breaks s q set h.1.on_each_day)
  note_own s q (Undecided question learnt) h = tt

  own_own : (s : Slice) (q : SupplementQuestion) (own : List SupplementNote) → OwnNotes i s q own → AllByRecursion (IsOwn s) own
  own_own s q [] h = tt
  own_own s q (note ∷ []) h = (note_own s q note h, tt)
  own_own s q (note ∷ second ∷ own) h = absurd h

  parts_own : (s : Slice) (qs : List SupplementQuestion) (notes : List SupplementNote) → InParts (OwnNotes i s) qs notes → AllByRecursion (IsOwn s) notes
  parts_own s [] notes h = subst (AllByRecursion (IsOwn s)) (sym h) tt
  parts_own s (q ∷ qs) notes h = subst (AllByRecursion (IsOwn s)) (sym h.2) (joined s h.0 h.1 (own_own s q h.0 h.3) (parts_own s qs h.1 h.4))

  abbrev Anywhere : List SupplementNote → Type 0
  Anywhere notes = (first last : ℕ) → NotesOn (BreaksThen i.book) first last notes

  then_rest : (s : Slice) (own rest : List SupplementNote) → AllByRecursion (IsOwn s) own → Anywhere rest
      → NotesOn (BreaksThen i.book) s.first s.last (own ++ rest)
  then_rest s [] rest h k = k s.first s.last
  then_rest s (Days first last ∷ own) rest h k = absurd h.0
  then_rest s (Finding question set ∷ own) rest h k = (h.0, then_rest s own rest h.1 k)
  then_rest s (Undecided question learnt ∷ own) rest h k = then_rest s own rest h.1 k

  slice_then : (s : Slice) (notes rest : List SupplementNote) → SliceNotes i s notes → Anywhere rest → Anywhere (notes ++ rest)
  slice_then s notes rest h k = λ first last.
      subst (λ (ns : List SupplementNote). NotesOn (BreaksThen i.book) first last (ns ++ rest)) (sym h.days_first)
      (then_rest s h.own rest (parts_own s (questions i.book s.first) h.own h.answers) k)

  each_slice : (slices : List Slice) (notes : List SupplementNote) → InParts (SliceNotes i) slices notes → Anywhere notes
  each_slice [] notes h = λ first last. subst (NotesOn (BreaksThen i.book) first last) (sym h) tt
  each_slice (s ∷ slices) notes h = λ first last.
      subst (NotesOn (BreaksThen i.book) first last) (sym h.2) (slice_then s h.0 h.1 h.3 (each_slice slices h.1 h.4) first last)

breaks_then : (i : SupplementInquiry) (notes : List SupplementNote) → IsReport i notes → NotesOn (BreaksThen i.book) 1 0 notes
breaks_then i notes h = each_slice i h.slices notes h.each 1 0

-- of what a call returns
pub each_breaks : {E : Type 0} (i : SupplementInquiry) (result : Result (List SupplementNote) E) → IfOk result (IsReport i)
    → IfOk result (NotesOn (BreaksThen i.book) 1 0)
each_breaks i (Ok notes) h = breaks_then i notes h
each_breaks i (Err why) h = tt
