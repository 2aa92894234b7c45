-- What the notes of all slices come to.
use Rattle.std.proofs.Common.{◌≡◌, ℕ, ◌≤◌, Bool, true, false, ◌||◌, cond, List, [], ◌∷◌, ◌++◌, Option, Some, None, Result, Ok, Err, All, length, refl, sym, ap, subst, ◌∙◌, arith}
use Rattle.std.specs.List.{list_any}
use Rattle.std.specs.Result.{IsErr, IsErrAnd}
use Rattle.std.specs.Prelude.{IfSome}
use Rattle.std.specs.Option.{is_none}
use Rattle.std.proofs.lemmas.List.Folds.{list_any-append}
use Rattle.std.proofs.lemmas.Slice.Zip.{all_zipped_more, AllZip-long}
use Rattle.std.proofs.lemmas.Bool.{or_parts, false≢true, cond-false}
use Rattle.pb_base.specs.Answers.{Answers, IfRefused}
use Rattle.pb_base.specs.declared.answer.Fail.{Fail}
use Rattle.pb_base.specs.declared.answer.Fail.TheVariants.{Refused, Memory}
use Rattle.book_model.specs.Contents.{Contents}
use Rattle.book_model.specs.Book.{IsBook}
use Rattle.book_model.specs.Slices.{IsOrdered, IsSteady}
use Rattle.book_model.specs.Sound.{IsReleasable}
use Rattle.book_model.specs.declared.record.Slice.{Slice}
use Rattle.book_model.proofs.SliceLaws.{slices_ordered, slices_steady}
use Rattle.derivation.specs.Limits.{slices_within}
use Rattle.derivation.proofs.LimitLaws.{slices_are_all, slices_from_within}
use Rattle.derivation.proofs.Released.{releasable_when_answered}
use Rattle.findings.specs.Notes.{is_fault, is_left, verdict_of}
use Rattle.derivation.specs.Showing.{ShowsSlice}
use Rattle.derivation.specs.declared.slice_proof.SliceProof.{SliceProof}
use Rattle.derivation.specs.Written.{IsBegun}
use Rattle.findings.specs.Answering.{IsShownIn, ShowsUnlessStopped, stops}
use Rattle.derivation.specs.Accepted.{IsAccepted}
use Rattle.findings.specs.declared.report.Note.{Note}
use Rattle.findings.specs.declared.report.Verdict.TheVariants as verdicts

-- the slices of a book within the limits are those of its term
pub steady_within : (b : Contents) (slices : List Slice) → b.first ≤ b.last → slices_within b ≡ Ok slices → All (IsSteady b) slices
steady_within b slices term is =
    subst (All (IsSteady b)) (slices_are_all b slices (slices_from_within b slices is)) (slices_steady b term)

pub ordered_within : (b : Contents) (slices : List Slice) → b.first ≤ b.last → slices_within b ≡ Ok slices → All IsOrdered slices
ordered_within b slices term is =
    subst (All IsOrdered) (slices_are_all b slices (slices_from_within b slices is)) (slices_ordered b term)

turned : (p q r s : Bool) → (p || q || (r || s)) ≡ (p || r || (q || s))
turned true q r s = refl
turned false true true s = refl
turned false true false s = refl
turned false false r s = refl

stops_apart : (notes : List Note) → list_any stops notes ≡ (list_any is_fault notes || list_any is_left notes)
stops_apart [] = refl
stops_apart (n ∷ notes) = ap (λ (t : Bool). is_fault n || is_left n || t) (stops_apart notes) ∙ turned (is_fault n) (is_left n) (list_any is_fault notes) (list_any is_left notes)

-- the verdict is that of the notes that stop a release
pub releasable_when_free : (notes : List Note) → list_any stops notes ≡ false → verdict_of notes ≡ verdicts.Releasable
releasable_when_free notes free =
    let parts = or_parts (list_any is_fault notes) (list_any is_left notes) (sym (stops_apart notes) ∙ free) in
    cond-false (list_any is_fault notes) verdicts.Blocked (cond (list_any is_left notes) verdicts.Undecided verdicts.Releasable) parts.0
    ∙ cond-false (list_any is_left notes) verdicts.Undecided verdicts.Releasable parts.1

free_by : (f l : Bool) → cond f verdicts.Blocked (cond l verdicts.Undecided verdicts.Releasable) ≡ verdicts.Releasable → (f || l) ≡ false
free_by true l h = absurd (cc)
free_by false true h = absurd (cc)
free_by false false h = refl

pub free_when_releasable : (notes : List Note) → verdict_of notes ≡ verdicts.Releasable → list_any stops notes ≡ false
free_when_releasable notes h = stops_apart notes ∙ free_by (list_any is_fault notes) (list_any is_left notes) h

-- a refusal that is passed on is that of the definition
pub refusal_passed : {T A E : Type 0} (result : Result T (Fail E)) (e : Fail E) (answer : Result A E) → IsErr result × IsErrAnd result (λ x. x ≡ e)
    → Answers (Err e) answer → IfRefused result (λ fault. answer ≡ Err fault)
refusal_passed (Ok value) e answer h is = absurd (false≢true h.0)
refusal_passed {T} {A} {E} (Err (Refused fault)) e answer h is = subst (λ (y : Fail E). Answers {A = A} (Err y) answer) (sym h.1) is
refusal_passed (Err Memory) e answer h is = tt

pub released_by : (b : Contents) (text : List ℕ) → IsBook b → IsAccepted b text → IsReleasable b
released_by b text book h = releasable_when_answered b text h.certified book h.answer

-- one slice more
pub stopped_more : (b : Contents) (s : Slice) (old own : List Note) (t : Bool) (proof : Option SliceProof) → t ≡ list_any stops old
    → ShowsUnlessStopped b s own proof → (t || is_none proof) ≡ list_any stops (old ++ own)
stopped_more b s old own t (Some proof) are h =
    sym (list_any-append stops old own ∙ ap (λ (u : Bool). list_any stops old || u) h.0 ∙ ap (λ (u : Bool). u || false) (sym are))
stopped_more b s old own t None are h =
    sym (list_any-append stops old own ∙ ap (λ (u : Bool). list_any stops old || u) h ∙ ap (λ (u : Bool). u || true) (sym are))

-- the set of what shows a slice is one of the book's codes
pub codes_shown : (b : Contents) (s : Slice) (own : List Note) (proof : Option SliceProof) → ShowsUnlessStopped b s own proof → IfSome proof (λ p. length p.set ≡ length b.codes)
codes_shown b s own (Some proof) h = h.1.codes
codes_shown b s own None h = tt

pub shown_none : (b : Contents) (text : List ℕ) (count : ℕ) → IsBegun b count [] text → IsShownIn b [] count text
shown_none b text count begun = record { proofs = []; each = tt; begun = begun }

pub shown_more : (b : Contents) (slices : List Slice) (s : Slice) (count number : ℕ) (own : List Note) (old new : List ℕ) (p : SliceProof) → number ≡ length slices
    → ShowsUnlessStopped b s own (Some p) → IsShownIn b slices count old
    → ((before : List SliceProof) → number ≡ length before → IsBegun b count before old → IsBegun b count (before ++ p ∷ []) new)
    → IsShownIn b (slices ++ s ∷ []) count new
shown_more b slices s count number own old new p is shows h put = record {
  proofs = h.proofs ++ p ∷ [];
  each = all_zipped_more (ShowsSlice b) slices h.proofs s p h.each shows.1;
  begun = put h.proofs (omega (arith, is, AllZip-long (ShowsSlice b) slices h.proofs h.each)) h.begun;
}
