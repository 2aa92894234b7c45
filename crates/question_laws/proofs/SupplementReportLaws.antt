-- Two reports in which no search was left tell the same, but for the sets.
use Rattle.std.proofs.Common.{◌≡◌, ℕ, ◌+◌, Bool, true, false, ◌||◌, cond, leb, List, [], ◌∷◌, Option, Some, None, Ok, Err, length, map, refl, sym, ap, ap₂, subst, ◌∙◌, arith}
use Rattle.std.specs.List.{AllByRecursion, list_any}
use Rattle.std.proofs.lemmas.Bool.{and_from, le-leb, or_parts, true≢false}
use Rattle.std.proofs.lemmas.List.Elements.{recursion_from_All}
use Rattle.std.proofs.lemmas.List.Sums.{sum_by-cons}
use Rattle.shared_work.proofs.SameLaws.{parts_same}
use Rattle.pb_base.specs.InParts.{InParts}
use Rattle.pb_base.specs.Results.{and_then, unless}
use Rattle.book_model.specs.Activity.{is_within}
use Rattle.book_model.specs.Book.{IsBook}
use Rattle.book_model.specs.Contents.{Contents}
use Rattle.book_model.specs.Slices.{IsOrdered, all_slices, slices_of}
use Rattle.book_model.specs.declared.record.Slice.{Slice}
use Rattle.book_model.specs.declared.slicing.LimitFault.{LimitFault}
use Rattle.book_model.specs.declared.slicing.LimitFault.TheVariants.{Slices}
use Rattle.book_model.proofs.SliceLaws.{slices_ordered}
use Rattle.supplement_findings.specs.Answering.{inquiry}
use Rattle.supplement_findings.specs.Limits.{first_over, slices_within}
use Rattle.supplement_findings.specs.Notes.{IsReport, OwnNotes, SliceNotes, findings_in, is_finding, is_undecided}
use Rattle.supplement_findings.specs.Questions.{questions}
use Rattle.supplement_findings.specs.declared.question.SupplementQuestion.{SupplementQuestion}
use Rattle.supplement_findings.specs.declared.report.SupplementNote.{SupplementNote}
use Rattle.supplement_findings.specs.declared.report.SupplementNote.TheVariants.{Days, Finding, Undecided}
use Rattle.question_laws.specs.SupplementReports.{AreDecided, TellSame, bare}

module _ (b : Contents) (budget other : ℕ) (s : Slice) (order : IsOrdered s) where
  first_day : is_within s.first s.last s.first ≡ true
  first_day = and_from _ _ (le-leb s.first s.first (omega arith)) (le-leb s.first s.last order)

  -- the notes on one question
  own_same : (q : SupplementQuestion) (xs ys : List SupplementNote) → OwnNotes (inquiry b budget) s q xs → OwnNotes (inquiry b other) s q ys
      → list_any is_undecided xs ≡ false → list_any is_undecided ys ≡ false → map bare xs ≡ map bare ys
  own_same q [] [] h k none also = refl
  own_same q [] (Days first last ∷ []) h k none also = absurd k
  own_same q [] (Finding p x ∷ []) h k none also = absurd (true≢false (sym (k.1.on_each_day s.first first_day) ∙ h s.first first_day x k.1.counted))
  own_same q [] (Undecided p learnt ∷ []) h k none also = absurd (true≢false also)
  own_same q [] (y ∷ z ∷ ys) h k none also = absurd k
  own_same q (Days first last ∷ []) ys h k none also = absurd h
  own_same q (Finding p x ∷ []) [] h k none also = absurd (true≢false (sym (h.1.on_each_day s.first first_day) ∙ k s.first first_day x h.1.counted))
  own_same q (Finding p x ∷ []) (Days first last ∷ []) h k none also = absurd k
  own_same q (Finding p x ∷ []) (Finding r y ∷ []) h k none also = ap (λ (t : SupplementQuestion). Finding t [] ∷ []) (h.0 ∙ sym k.0)
  own_same q (Finding p x ∷ []) (Undecided r learnt ∷ []) h k none also = absurd (true≢false also)
  own_same q (Finding p x ∷ []) (y ∷ z ∷ ys) h k none also = absurd k
  own_same q (Undecided p learnt ∷ []) ys h k none also = absurd (true≢false none)
  own_same q (x ∷ w ∷ xs) ys h k none also = absurd h

  -- behind the days of a slice no search was left
  own_decided : (first last : ℕ) (notes own : List SupplementNote) → notes ≡ Days first last ∷ own → AreDecided notes → AreDecided own
  own_decided first last notes own is none =
      let whole : (false || list_any is_undecided own) ≡ false = sym (ap (list_any is_undecided) is) ∙ none in
      (or_parts false (list_any is_undecided own) whole).1

  -- the notes on a slice
  slice_same : (one two : List SupplementNote) → SliceNotes (inquiry b budget) s one → SliceNotes (inquiry b other) s two → AreDecided one → AreDecided two
      → map bare one ≡ map bare two
  slice_same one two h k none also =
      let same : map bare h.own ≡ map bare k.own =
      parts_same (OwnNotes (inquiry b budget) s) (OwnNotes (inquiry b other) s) is_undecided bare own_same (questions b s.first) h.own k.own h.answers k.answers
      (own_decided s.first s.last one h.own h.days_first none) (own_decided s.first s.last two k.own k.days_first also) in
      ap (map bare) h.days_first ∙ ap (λ (ns : List SupplementNote). Days s.first s.last ∷ ns) same ∙ sym (ap (map bare) k.days_first)

-- a part for each of some things of which something holds
parts_with : {X N : Type 0} (Holds : X → Type 0) (P : X → List N → Type 0) (xs : List X) (ns : List N) → AllByRecursion Holds xs → InParts P xs ns
    → InParts (λ (x : X) (own : List N). Holds x × P x own) xs ns
parts_with Holds P [] ns h parts = parts
parts_with Holds P (x ∷ xs) ns h parts = (parts.0, parts.1, parts.2, (h.0, parts.3), parts_with Holds P xs parts.1 h.1 parts.4)

-- the slices of a report are those of the book's term
within_from : (b : Contents) (all slices : List Slice) (over : Option LimitFault) → unless over (Ok all) ≡ Ok slices → all ≡ slices
within_from b all slices None h = cc
within_from b all slices (Some fault) h = absurd (cc)

limit_from : (b : Contents) (t : Bool) (all slices : List Slice) (fault : LimitFault)
    → and_then (cond t (Ok all) (Err fault)) (λ ss. unless (first_over 0 b ss) (Ok ss)) ≡ Ok slices → all ≡ slices
limit_from b true all slices fault h = within_from b all slices (first_over 0 b all) h
limit_from b false all slices fault h = absurd (cc)

all_of : (b : Contents) (slices : List Slice) → slices_within b ≡ Ok slices → all_slices b ≡ slices
unfolding slices_of
all_of b slices h = limit_from b (leb (length (all_slices b)) 64) (all_slices b) slices (Slices (length (all_slices b))) h

-- what is counted hangs on no set
bare_finding : (note : SupplementNote) → is_finding note ≡ is_finding (bare note)
bare_finding (Days first last) = refl
bare_finding (Finding question set) = refl
bare_finding (Undecided question learnt) = refl

bare_any : (notes : List SupplementNote) → list_any is_finding notes ≡ list_any is_finding (map bare notes)
bare_any [] = refl
bare_any (note ∷ notes) = ap₂ (λ (t u : Bool). t || u) (bare_finding note) (bare_any notes)

abbrev tally : SupplementNote → ℕ
tally note = cond (is_finding note) 1 0

bare_count : (notes : List SupplementNote) → findings_in notes ≡ findings_in (map bare notes)
bare_count [] = refl
bare_count (note ∷ notes) =
    sum_by-cons tally note notes ∙ ap₂ (λ (m n : ℕ). m + n) (ap (λ (t : Bool). cond t 1 0) (bare_finding note)) (bare_count notes)
    ∙ sym (sum_by-cons tally (bare note) (map bare notes))

abbrev PartOf : Contents → ℕ → Slice → List SupplementNote → Type 0
PartOf b budget s notes = IsOrdered s × SliceNotes (inquiry b budget) s notes

pub same_report : (b : Contents) (budget other : ℕ) (one two : List SupplementNote) → IsBook b → IsReport (inquiry b budget) one → IsReport (inquiry b other) two
    → AreDecided one → AreDecided two → TellSame one two
same_report b budget other one two book h k none also =
    let all = all_slices b in
    let order : AllByRecursion IsOrdered all = recursion_from_All IsOrdered all (slices_ordered b book.term) in
    let first = subst (λ (ss : List Slice). InParts (SliceNotes (inquiry b budget)) ss one) (sym (all_of b h.slices h.within)) h.each in
    let second = subst (λ (ss : List Slice). InParts (SliceNotes (inquiry b other)) ss two) (sym (all_of b k.slices k.within)) k.each in
    let same : map bare one ≡ map bare two =
    parts_same (PartOf b budget) (PartOf b other) is_undecided bare (λ s own next p q free too. slice_same b budget other s p.0 own next p.1 q.1 free too)
    all one two (parts_with IsOrdered (SliceNotes (inquiry b budget)) all one order first) (parts_with IsOrdered (SliceNotes (inquiry b other)) all two order second) none also in
    record {
      notes = same;
      found = bare_any one ∙ ap (list_any is_finding) same ∙ sym (bare_any two);
      count = bare_count one ∙ ap findings_in same ∙ sym (bare_count two);
    }
