-- What is told of the runs of days of two books.
use Rattle.std.proofs.Common.{◌≡◌, ℕ, ◌≤◌, Bool, true, false, List, [], ◌∷◌, refl, sym, subst}
use Rattle.std.specs.Prelude.{nat_le}
use Rattle.std.specs.List.{AllByRecursion, AllZip, flat_map}
use Rattle.std.proofs.lemmas.Bool.{leb-true}
use Rattle.book_model.specs.Contents.{Contents}
use Rattle.book_model.specs.declared.record.Slice.{Slice}
use Rattle.book_changes.specs.Changes.{IsChanges, IsRun}
use Rattle.book_changes.specs.Days.{earlier, joint_runs, later, shared}
use Rattle.book_changes.specs.declared.run.RunNotes.{RunNotes}
use Rattle.comparison_guards.specs.Cars.{IsOwnIfLost}
use Rattle.comparison_guards.specs.Runs.{HasDays, WinsOwnCars}
use Rattle.comparison_guards.proofs.CarLaws.{own_lost}
use Rattle.comparison_guards.proofs.PartsHave.{all_both}

shared_upward : (s t : Slice) → AllByRecursion (λ r. r.first ≤ r.last) (shared s t)
shared_upward s t = by (nat_le (later s.first t.first) (earlier s.last t.last)) refl
  where
    by : (b : Bool) → nat_le (later s.first t.first) (earlier s.last t.last) ≡ b → AllByRecursion (λ r. r.first ≤ r.last) (shared s t)
    by true is = rw is (leb-true _ _ is, tt)
    by false is = rw is tt

all_flat : {X Y : Type 0} (P : Y → Type 0) (f : X → List Y) → ((x : X) → AllByRecursion P (f x)) → (xs : List X) → AllByRecursion P (flat_map f xs)
all_flat P f each [] = tt
all_flat P f each (x ∷ xs) = all_both P (f x) (flat_map f xs) (each x) (all_flat P f each xs)

joint_upward : (ss ts : List Slice) → AllByRecursion (λ r. r.first ≤ r.last) (joint_runs ss ts)
joint_upward ss ts = all_flat (λ r. r.first ≤ r.last) (λ s. flat_map (shared s) ts) (λ s. all_flat (λ r. r.first ≤ r.last) (shared s) (shared_upward s) ts) ss

module _ (first second : Contents) (budget : ℕ) where
  runs_upward : (runs : List Slice) (notes : List RunNotes) → AllByRecursion (λ r. r.first ≤ r.last) runs → AllZip (IsRun first second budget) runs notes → AllByRecursion HasDays notes
  runs_upward [] [] up zip = tt
  runs_upward [] (n ∷ notes) up zip = absurd zip
  runs_upward (r ∷ runs) [] up zip = absurd zip
  runs_upward (r ∷ runs) (n ∷ notes) up zip =
      (subst (λ (s : Slice). s.first ≤ s.last) (sym zip.0.days) up.0, runs_upward runs notes up.1 zip.1)

  pub days_upward : (notes : List RunNotes) → IsChanges first second budget notes → AllByRecursion HasDays notes
  days_upward notes h = runs_upward (joint_runs h.first_slices h.second_slices) notes (joint_upward h.first_slices h.second_slices) h.each

  runs_won : (runs : List Slice) (notes : List RunNotes) → AllZip (IsRun first second budget) runs notes → AllByRecursion (WinsOwnCars second) notes
  runs_won [] [] zip = tt
  runs_won [] (n ∷ notes) zip = absurd zip
  runs_won (r ∷ runs) [] zip = absurd zip
  runs_won (r ∷ runs) (n ∷ notes) zip = (
    subst (λ (s : Slice). AllByRecursion (IsOwnIfLost second s.first) n.won.items) (sym zip.0.days) (own_lost second first r.first budget n.won.items zip.0.won),
    runs_won runs notes zip.1,
  )

  pub won_new : (notes : List RunNotes) → IsChanges first second budget notes → AllByRecursion (WinsOwnCars second) notes
  won_new notes h = runs_won (joint_runs h.first_slices h.second_slices) notes h.each
