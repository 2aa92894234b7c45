-- The notes of several slices, one slice behind the other.
use Rattle.std.proofs.Common.{◌≡◌, ℕ, ◌+◌, ◌<◌, ◌≤◌, List, [], ◌∷◌, ◌++◌, length, take, get_or, refl, sym, subst, All}
use Rattle.std.specs.List.{AllZip, flat_map}
use Rattle.std.proofs.lemmas.List.{take_more}
use Rattle.shared_work.proofs.JoinLaws.{zip-append}
use Rattle.pb_base.specs.InParts.{InParts}
use Rattle.pb_base.specs.declared.limits.TheConstants.{MOST_BUDGET}
use Rattle.book_model.specs.Contents.{Contents}
use Rattle.book_model.specs.Slices.{IsOrdered, IsSteady}
use Rattle.book_model.specs.declared.record.Slice.{Slice}
use Rattle.supplement_findings.specs.Slices.{IsSliceTask, notes_in}
use Rattle.supplement_findings.specs.declared.report.SupplementNote.{SupplementNote}

module _ {X : Type 0} (P : X → List SupplementNote → Type 0) where
  -- what was made of one more
  pub zip_next : (xs : List X) (k : ℕ) (d : X) (each more : List (List SupplementNote)) (own : List SupplementNote) → k < length xs → AllZip P (take k xs) each → P (get_or xs k d) own
      → more ≡ each ++ own ∷ [] → AllZip P (take (k + 1) xs) more
  zip_next xs k d each more own below so_far is put =
      subst (AllZip P (take (k + 1) xs)) (sym put)
      (subst (λ (zs : List X). AllZip P zs (each ++ own ∷ [])) (sym (take_more xs k d below)) (zip-append P (take k xs) (get_or xs k d ∷ []) each (own ∷ []) so_far (is, tt)))

  -- what was made of each is the parts of the whole
  pub whole_of_each : (xs : List X) (each : List (List SupplementNote)) → AllZip P xs each → InParts P xs (flat_map notes_in each)
  whole_of_each [] [] h = refl
  whole_of_each [] (own ∷ each) h = absurd h
  whole_of_each (x ∷ xs) [] h = absurd h
  whole_of_each (x ∷ xs) (own ∷ each) h = (own, flat_map notes_in each, refl, h.0, whole_of_each xs each h.1)

pub all_tasks : (b : Contents) (budget : ℕ) (slices : List Slice) → All IsOrdered slices → All (IsSteady b) slices → 0 < budget → budget ≤ MOST_BUDGET
    → All (IsSliceTask b budget) slices
all_tasks b budget slices order steady some most k d low = record { order = order k d low; steady = steady k d low; some = some; most = most }
