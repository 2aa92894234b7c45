-- The checks of slices, one behind the other.
use Rattle.std.proofs.Common.{◌≡◌, ℕ, zero, suc, ◌<◌, List, [], ◌∷◌, Option, Some, None, get_or, length, subst, arith}
use Rattle.std.specs.Prelude.{IfSome, IsSome}
use Rattle.std.specs.List.{AllZip}
use Rattle.std.proofs.lemmas.Bool.{false≢true}
use Rattle.pb_base.specs.InParts.{InParts}
use Rattle.book_model.specs.Book.{IsBook}
use Rattle.book_model.specs.Contents.{Contents}
use Rattle.book_model.specs.Sound.{IsReleasable}
use Rattle.book_model.specs.declared.record.Slice.{Slice}
use Rattle.derivation.specs.Accepted.{IsAccepted}
use Rattle.findings.specs.Answering.{inquiry}
use Rattle.findings.specs.Checked.{IsChecked, IsShownBy}
use Rattle.findings.specs.Notes.{SliceNotes}
use Rattle.findings.specs.declared.report.Note.{Note}
use Rattle.findings.specs.declared.slice.SliceCheck.{SliceCheck}
use Rattle.findings.specs.declared.task.Effort.{Effort}
use Rattle.findings.proofs.BookLaws.{released_by}

-- of two lists, what stands at one place
pub zip_at : {X Y : Type 0} (P : X → Y → Type 0) (xs : List X) (ys : List Y) (k : ℕ) (d : X) (e : Y) → k < length ys → AllZip P xs ys → P (get_or xs k d) (get_or ys k e)
zip_at P xs [] k d e low h = absurd (omega (arith, low))
zip_at P [] (y ∷ ys) k d e low h = absurd h
zip_at P (x ∷ xs) (y ∷ ys) zero d e low h = h.0
zip_at P (x ∷ xs) (y ∷ ys) (suc k) d e low h = zip_at P xs ys k d e (omega (arith, low)) h.1

pub shown_each : (b : Contents) (effort : Effort) (slices : List Slice) (checks : List SliceCheck) → AllZip (IsChecked b effort) slices checks → AllZip (IsShownBy b) slices checks
shown_each b effort [] [] h = tt
shown_each b effort [] (c ∷ checks) h = absurd h
shown_each b effort (s ∷ slices) [] h = absurd h
shown_each b effort (s ∷ slices) (c ∷ checks) h = (h.0.shown, shown_each b effort slices checks h.1)

-- their notes are those of the slices
pub parts_checked : (b : Contents) (effort : Effort) (slices : List Slice) (checks : List SliceCheck) (all : List Note) → AllZip (IsChecked b effort) slices checks
    → InParts (λ (c : SliceCheck) (own : List Note). c.notes.items ≡ own) checks all → InParts (SliceNotes (inquiry b effort)) slices all
parts_checked b effort [] [] all h k = k
parts_checked b effort [] (c ∷ checks) all h k = absurd h
parts_checked b effort (s ∷ slices) [] all h k = absurd h
parts_checked b effort (s ∷ slices) (c ∷ checks) all h k =
    (k.0, k.1, k.2, subst (SliceNotes (inquiry b effort) s) k.3 h.0.notes, parts_checked b effort slices checks k.1 h.1 k.4)

pub released_when : (b : Contents) (cert : Option (List ℕ)) → IsBook b → IfSome cert (IsAccepted b) → IsSome cert → IsReleasable b
released_when b (Some text) book h some = released_by b text book h
released_when b None book h some = absurd (false≢true some)
