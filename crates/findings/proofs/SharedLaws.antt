-- The notes of each slice, one behind the other, are the notes of all.
use Rattle.std.proofs.Common.{◌≡◌, ◌≤◌, List, [], ◌∷◌, Ok, All, subst}
use Rattle.std.specs.List.{AllZip}
use Rattle.pb_base.specs.InParts.{InParts}
use Rattle.book_model.specs.Contents.{Contents}
use Rattle.book_model.specs.declared.record.Slice.{Slice}
use Rattle.derivation.specs.Limits.{AreWithin, slices_within}
use Rattle.findings.specs.Checkable.{IsCheckable}
use Rattle.findings.specs.declared.report.Note.{Note}
use Rattle.findings.proofs.BookLaws.{steady_within, ordered_within}

pub checkable_within : (b : Contents) (slices : List Slice) → b.first ≤ b.last → slices_within b ≡ Ok slices → AreWithin b slices → All (IsCheckable b) slices
checkable_within b slices term is few = λ n d low. record {
  steady = steady_within b slices term is n d low;
  order = ordered_within b slices term is n d low;
  few = few n d low;
}

pub parts_joined : (P : Slice → List Note → Type 0) (slices : List Slice) (reports : List (List Note)) (all : List Note) → AllZip P slices reports
    → InParts (λ (report own : List Note). report ≡ own) reports all → InParts P slices all
parts_joined P [] [] all h k = k
parts_joined P [] (report ∷ reports) all h k = absurd h
parts_joined P (s ∷ slices) [] all h k = absurd h
parts_joined P (s ∷ slices) (report ∷ reports) all h k = (k.0, k.1, k.2, subst (P s) k.3 h.0, parts_joined P slices reports k.1 h.1 k.4)
