-- What two searches tell of one question, where neither was left.
use Rattle.std.proofs.Common.{◌≡◌, ℕ, false, List, [], ◌∷◌, None, map, refl, sym, ap, ◌∙◌}
use Rattle.std.specs.List.{list_any}
use Rattle.std.proofs.lemmas.Bool.{both_ways, true≢false}
use Rattle.book_model.specs.Contents.{Contents}
use Rattle.pb_base.specs.Picked.{picked}
use Rattle.lost_cars.specs.Losses.{IsLossNoted, is_lost}
use Rattle.lost_cars.specs.declared.note.Cause.{Cause}
use Rattle.lost_cars.specs.declared.note.LossNote.{LossNote}
use Rattle.lost_cars.specs.declared.note.LossNote.TheVariants as loss
use Rattle.book_changes.specs.Changes.{IsAnyCommon}
use Rattle.book_changes.specs.ChangesText.{is_left_common, is_left_difference, is_left_loss}
use Rattle.book_changes.specs.Differs.{IsDifferNoted}
use Rattle.book_changes.specs.declared.run.Common.{Common}
use Rattle.book_changes.specs.declared.run.Common.TheVariants.{Shared, Nowhere, Undecided}
use Rattle.book_changes.specs.declared.run.DifferNote.{DifferNote}
use Rattle.book_changes.specs.declared.run.DifferNote.TheVariants as differ
use Rattle.change_laws.specs.Reports.{bare_differ, bare_loss}

module _ (own next : Contents) (day budget other : ℕ) where
  pub common_same : (c d : Common) → IsAnyCommon own next day budget c → IsAnyCommon own next day other d → is_left_common c ≡ false → is_left_common d ≡ false → c ≡ d
  common_same Shared Shared h k none also = refl
  common_same Shared Nowhere h k none also = absurd (k h.0 h.1)
  common_same Shared Undecided h k none also = absurd (true≢false also)
  common_same Nowhere Shared h k none also = absurd (h k.0 k.1)
  common_same Nowhere Nowhere h k none also = refl
  common_same Nowhere Undecided h k none also = absurd (true≢false also)
  common_same Undecided d h k none also = absurd (true≢false none)

  pub losses_same : (q : _) (xs ys : List LossNote) → IsLossNoted own next day budget q xs → IsLossNoted own next day other q ys
      → list_any is_left_loss xs ≡ false → list_any is_left_loss ys ≡ false → map bare_loss xs ≡ map bare_loss ys
  losses_same q [] [] h k none also = refl
  losses_same q [] (loss.Lost cause x ∷ []) h k none also =
      absurd (both_ways (is_lost own next day q (picked own.codes x)) (h (picked own.codes x) k.2.car) k.2.lost)
  losses_same q [] (loss.Undecided cause ∷ []) h k none also = absurd (true≢false also)
  losses_same q [] (y ∷ z ∷ ys) h k none also = absurd k
  losses_same q (loss.Lost cause x ∷ []) [] h k none also =
      absurd (both_ways (is_lost own next day q (picked own.codes x)) (k (picked own.codes x) h.2.car) h.2.lost)
  losses_same q (loss.Lost cause x ∷ []) (loss.Lost known y ∷ []) h k none also = ap (λ (c : Cause). loss.Lost c [] ∷ []) (h.0 ∙ sym k.0)
  losses_same q (loss.Lost cause x ∷ []) (loss.Undecided known ∷ []) h k none also = absurd (true≢false also)
  losses_same q (loss.Lost cause x ∷ []) (y ∷ z ∷ ys) h k none also = absurd k
  losses_same q (loss.Undecided cause ∷ []) ys h k none also = absurd (true≢false none)
  losses_same q (x ∷ w ∷ xs) ys h k none also = absurd h

  pub differs_same : (id : List ℕ) (xs ys : List DifferNote) → IsDifferNoted own next day budget id xs → IsDifferNoted own next day other id ys
      → list_any is_left_difference xs ≡ false → list_any is_left_difference ys ≡ false → map bare_differ xs ≡ map bare_differ ys
  differs_same id [] [] h k none also = refl
  differs_same id [] (differ.Differs position names has had ∷ []) h k none also = absurd (k.1.differ (h names k.1.common))
  differs_same id [] (differ.Undecided position ∷ []) h k none also = absurd (true≢false also)
  differs_same id [] (y ∷ z ∷ ys) h k none also = absurd k
  differs_same id (differ.Differs position names has had ∷ []) [] h k none also = absurd (h.1.differ (k names h.1.common))
  differs_same id (differ.Differs position names has had ∷ []) (differ.Differs at others got gets ∷ []) h k none also =
      ap (λ (p : List ℕ). differ.Differs p [] None None ∷ []) (h.0 ∙ sym k.0)
  differs_same id (differ.Differs position names has had ∷ []) (differ.Undecided at ∷ []) h k none also = absurd (true≢false also)
  differs_same id (differ.Differs position names has had ∷ []) (y ∷ z ∷ ys) h k none also = absurd k
  differs_same id (differ.Undecided position ∷ []) ys h k none also = absurd (true≢false none)
  differs_same id (x ∷ w ∷ xs) ys h k none also = absurd h
