-- What is told to change makes an order accepted.
use Rattle.std.proofs.Common.{◌≡◌, ◌∙◌, ℕ, suc, Bool, true, cond, List, [], ◌∷◌, length, Option, Some, None, refl, sym, ap}
use Rattle.std.specs.Prelude.{nat_le}
use Rattle.std.proofs.lemmas.Bool.{and_parts, leb-true, true≢false}
use Rattle.std.proofs.lemmas.Option.{none-some}
use Rattle.book_model.specs.Activity.{is_within}
use Rattle.book_model.specs.Contents.{Contents}
use Rattle.book_model.specs.Parts.{selected}
use Rattle.book_model.specs.Sound.{is_fit, are_fit_from}
use Rattle.book_model.specs.declared.record.Position.{Position}
use Rattle.parts_usage.specs.Unfit.{first_unfit_from}
use Rattle.parts_usage.specs.declared.unfit.Unfit.{Unfit as UnfitPosition}
use Rattle.order_repair.specs.Repair.{IsChange, IsMended, IsMendedBy, IsRepair}
use Rattle.order_repair.specs.declared.answer.Change.{Change}
use Rattle.order_repair.specs.declared.answer.Change.TheVariants.{Add, Unfit}
use Rattle.order_repair.specs.declared.answer.Repair.{Repair}
use Rattle.order_repair.specs.declared.answer.Repair.TheVariants.{NotNeeded, Undecided, NoOrder, Keep}

-- where all positions fit, none is the first that doesn't
fits_all : (i : ℕ) (b : Contents) (day : ℕ) (x : List Bool) (ps : List Position) → are_fit_from i b day x ps ≡ true → first_unfit_from i b day x ps ≡ None
fits_all i b day x [] fit = refl
fits_all i b day x (p ∷ ps) fit =
    let parts = and_parts (is_fit b day x i p) (are_fit_from (suc i) b day x ps) fit in
    let unfit : Option UnfitPosition = Some (record { position = i; count = length (selected b day x i p) }) in
    ap (λ c. cond c (first_unfit_from (suc i) b day x ps) unfit) parts.0 ∙ fits_all (suc i) b day x ps parts.1

module _ (b : Contents) (day : ℕ) (within : is_within b.first b.last day ≡ true) where
  abbrev days : (nat_le b.first day ≡ true) × (nat_le day b.last ≡ true)
  days = and_parts (nat_le b.first day) (nat_le day b.last) within

  mended_by : (kept : List ℕ) (change : Change) → IsChange b day kept change → IsMendedBy b day kept change
  mended_by kept (Add added) h = h.added.accepted
  mended_by kept (Unfit x unfit) h = λ releasable.
      let fits = releasable.sound day (leb-true _ _ days.0) (leb-true _ _ days.1) x h.car.good in
      none-some unfit (sym (fits_all 0 b day x b.positions fits) ∙ h.first)

  repair_mends : (chosen : List ℕ) (budget : ℕ) (accepted : Bool) (r : Repair) → IsRepair b day chosen budget accepted r → IsMended b day r
  repair_mends chosen budget accepted NotNeeded h = tt
  repair_mends chosen budget accepted (Undecided learnt) h = tt
  repair_mends chosen budget accepted (NoOrder m) h = λ releasable.
      let car = releasable.not_void day (leb-true _ _ days.0) (leb-true _ _ days.1) in
      true≢false (sym car.1 ∙ h.1.void car.0)
  repair_mends chosen budget accepted (Keep k) h = mended_by k.codes.items k.change h.1.change

pub mended : (b : Contents) (day : ℕ) (chosen : List ℕ) (budget : ℕ) (accepted : Bool) (r : Repair) → is_within b.first b.last day ≡ true
    → IsRepair b day chosen budget accepted r → IsMended b day r
mended b day chosen budget accepted r within = repair_mends b day within chosen budget accepted r
