-- What is told of the questions of a slice.
use Rattle.std.proofs.Common.{◌≡◌, ℕ, ◌≤◌, Bool, true, false, cond, leb, List, [], ◌∷◌, length, map, Result, Ok, Err, refl, sym, ap, subst, ◌∙◌, arith, All}
use Rattle.std.specs.List.{AllByRecursion}
use Rattle.std.proofs.lemmas.Bool.{and_from, le-leb, leb-true, false≢true}
use Rattle.std.proofs.lemmas.List.{map-append}
use Rattle.std.proofs.lemmas.List.Elements.{All-from_recursion, filter_passes}
use Rattle.std.specs.Result.{IsErr, IsErrAnd}
use Rattle.pb_base.specs.Answers.{Answers, IfRefused}
use Rattle.pb_base.specs.declared.answer.Fail.{Fail}
use Rattle.pb_base.specs.declared.answer.Fail.TheVariants.{Refused, Memory}
use Rattle.pb_base.specs.InParts.{InParts}
use Rattle.pb_base.proofs.PartLaws.{none_in_parts}
use Rattle.book_model.specs.Activity.{is_within}
use Rattle.book_model.specs.Book.{IsBook}
use Rattle.book_model.specs.Contents.{Contents}
use Rattle.book_model.specs.Good.{is_constructible}
use Rattle.book_model.specs.Slices.{IsOrdered, IsSteady, all_slices, slices_of}
use Rattle.book_model.specs.declared.slicing.LimitFault.{LimitFault}
use Rattle.book_model.specs.declared.slicing.LimitFault.TheVariants.{Slices}
use Rattle.book_model.specs.declared.record.Slice.{Slice}
use Rattle.clausify.proofs.ListLaws.{all_weaker}
use Rattle.inquiry.specs.Told.{IsKept, IsTold}
use Rattle.inquiry.specs.declared.told.Told.{Told}
use Rattle.inquiry.specs.declared.told.Told.TheVariants as told
use Rattle.supplement_findings.specs.Answering.{IsBuilt, IsPosed, IsCounted, form, inquiry}
use Rattle.supplement_findings.specs.Ends.{IsCalm}
use Rattle.supplement_findings.specs.NoteOf.{note_of}
use Rattle.supplement_findings.specs.Notes.{ShownBy, ShownByNone, OwnNotes, HasOneEndThrough, SliceNotes}
use Rattle.supplement_findings.specs.Questions.{all_questions, is_put, questions, meets, QuestionFits}
use Rattle.supplement_findings.specs.declared.question.SupplementQuestion.{SupplementQuestion}
use Rattle.supplement_findings.specs.declared.report.SupplementNote.{SupplementNote}
use Rattle.supplement_findings.specs.declared.report.SupplementNote.TheVariants.{Days}
use Rattle.supplement_findings.proofs.EndLaws.{one_end_law}
use Rattle.supplement_findings.proofs.QuestionLaws.{calm_law, calm_alike, meets_alike, questions_fit}

-- a set that shows something on the first day of a slice shows it on each
pub shown_through : (b : Contents) (s : Slice) (q : SupplementQuestion) (x : List Bool) → IsSteady b s → QuestionFits b q → length x ≡ length b.codes → meets b s.first q x ≡ true
    → ShownBy b s q x
shown_through b s q x steady fits len met = record { counted = len; on_each_day = λ day within. meets_alike b day s.first q x (steady day within) fits ∙ met }

pub none_through : (b : Contents) (s : Slice) (q : SupplementQuestion) → IsSteady b s → QuestionFits b q
    → ((x : List Bool) → length x ≡ length b.codes → meets b s.first q x ≡ false) → ShownByNone b s q
none_through b s q steady fits none day within x len = meets_alike b day s.first q x (steady day within) fits ∙ none x len

-- the first day of a slice is one of its days
on_first : (s : Slice) → s.first ≤ s.last → is_within s.first s.last s.first ≡ true
on_first s order = and_from _ _ (le-leb s.first s.first (omega arith)) (le-leb s.first s.last order)

-- where no question of the slice has a note, each constructible set has one end on each day
pub one_end_through : (b : Contents) (budget : ℕ) (s : Slice) (own : List SupplementNote) → IsBook b → IsOrdered s → IsSteady b s
    → InParts (OwnNotes (inquiry b budget) s) (questions b s.first) own → own ≡ [] → HasOneEndThrough b s
one_end_through b budget s own book order steady parts none day within x len built =
    let quiet : AllByRecursion (λ (q : SupplementQuestion). OwnNotes (inquiry b budget) s q []) (questions b s.first) =
    none_in_parts (OwnNotes (inquiry b budget) s) (questions b s.first) own none parts in
    let on_the_first : AllByRecursion (λ (q : SupplementQuestion). (y : List Bool) → length y ≡ length b.codes → meets b s.first q y ≡ false) (questions b s.first) =
    all_weaker (λ (q : SupplementQuestion). OwnNotes (inquiry b budget) s q []) (λ (q : SupplementQuestion). (y : List Bool) → length y ≡ length b.codes → meets b s.first q y ≡ false)
    (λ q h y counted. h s.first (on_first s order) y counted) (questions b s.first) quiet in
    let calm : IsCalm b day = calm_alike b day s.first (steady day within) (calm_law b s.first on_the_first) in
    one_end_law b day book calm x len built

pub slice_notes : (b : Contents) (budget : ℕ) (s : Slice) (own notes : List SupplementNote) → IsBook b → IsOrdered s → IsSteady b s
    → InParts (OwnNotes (inquiry b budget) s) (questions b s.first) own → notes ≡ Days s.first s.last ∷ own → SliceNotes (inquiry b budget) s notes
slice_notes b budget s own notes book order steady parts is = record {
  own = own;
  days_first = is;
  answers = parts;
  one_end = λ none. one_end_through b budget s own book order steady parts none;
}

pub questions_put : (b : Contents) (day : ℕ) → All (λ q. is_put b day q ≡ true) (questions b day)
questions_put b day = filter_passes (is_put b day) (all_questions b)

pub questions_fitting : (b : Contents) (day : ℕ) → All (QuestionFits b) (questions b day)
questions_fitting b day = All-from_recursion (QuestionFits b) (questions b day) (questions_fit b day)

-- what is told of a question on the first day of a slice is told of the slice
noted : (b : Contents) (budget : ℕ) (s : Slice) (codes : List ℕ) (q : SupplementQuestion) (told : List (Told SupplementQuestion)) → IsSteady b s → IsPosed b s.first codes q
    → IsTold (form b s.first codes) budget q told → OwnNotes (inquiry b budget) s q (map note_of told)
noted b budget s codes q [] steady posed none = none_through b s q steady posed.fits none
noted b budget s codes q (told.Finding question set ∷ []) steady posed h = (h.0, shown_through b s q set steady posed.fits h.1.0 h.1.1)
noted b budget s codes q (told.Undecided question learnt ∷ []) steady posed h = h
noted b budget s codes q (first ∷ second ∷ more) steady posed h = absurd h

pub all_noted : (b : Contents) (budget : ℕ) (s : Slice) (codes : List ℕ) (qs : List SupplementQuestion) (told : List (Told SupplementQuestion)) → IsSteady b s → AllByRecursion (IsPosed b s.first codes) qs
    → InParts (IsTold (form b s.first codes) budget) qs told → InParts (OwnNotes (inquiry b budget) s) qs (map note_of told)
all_noted b budget s codes [] told steady posed parts = ap (map note_of) parts
all_noted b budget s codes (q ∷ qs) told steady posed parts = (
  map note_of parts.0,
  map note_of parts.1,
  ap (map note_of) parts.2 ∙ map-append note_of parts.0 parts.1,
  noted b budget s codes q parts.0 steady posed.0 parts.3,
  all_noted b budget s codes qs parts.1 steady posed.1 parts.4,
)

pub built_of_kept : (b : Contents) (day : ℕ) (codes : List ℕ) (xs : List (List Bool)) → All (IsKept (form b day codes) (λ x. is_constructible b day x ≡ true)) xs → All (IsBuilt b day) xs
built_of_kept b day codes xs h k d inside = let kept = h k d inside in (kept.0, kept.1)

pub kept_of_built : (b : Contents) (day : ℕ) (codes : List ℕ) (xs : List (List Bool)) → All (IsBuilt b day) xs → All (IsKept (form b day codes) (λ x. is_constructible b day x ≡ true)) xs
kept_of_built b day codes xs h k d inside = let built = h k d inside in (built.0, built.1)

-- a refusal that is passed on is that of the definition
pub refusal_passed : {T A E : Type 0} (result : Result T (Fail E)) (e : Fail E) (answer : Result A E) → IsErr result × IsErrAnd result (λ x. x ≡ e)
    → Answers (Err e) answer → IfRefused result (λ fault. answer ≡ Err fault)
refusal_passed (Ok value) e answer h is = absurd (false≢true h.0)
refusal_passed {T} {A} {E} (Err (Refused fault)) e answer h is = subst (λ (y : Fail E). Answers {A = A} (Err y) answer) (sym h.1) is
refusal_passed (Err Memory) e answer h is = tt

-- a book within the limit has few slices
ok_slices : (t : Bool) (all : List Slice) (fault : LimitFault) (slices : List Slice) → cond t (Ok all) (Err fault) ≡ Ok slices → (t ≡ true) × (all ≡ slices)
ok_slices true all fault slices h = (refl, cc)
ok_slices false all fault slices h = absurd (cc)

pub few_slices : (b : Contents) (slices : List Slice) → slices_of b ≡ Ok slices → length slices ≤ 64
unfolding slices_of
few_slices b slices h =
    let r = ok_slices (leb (length (all_slices b)) 64) (all_slices b) (Slices (length (all_slices b))) slices h in
    subst (λ (l : List Slice). length l ≤ 64) r.1 (leb-true (length (all_slices b)) 64 r.0)
