-- What is told to change in an order.
use Rattle.std.proofs.Common.{◌≡◌, ℕ, Bool, true, false, List, [], ◌∷◌, refl, sym, subst}
use Rattle.std.specs.List.{AllByRecursion}
use Rattle.book_model.specs.Contents.{Contents}
use Rattle.book_model.specs.Good.{is_good}
use Rattle.pb_base.specs.Places.{places_of}
use Rattle.blame.specs.declared.blamed.Blamed.{Blamed}
use Rattle.order_repair.specs.Places.{is_kept, left_out}
use Rattle.order_repair.specs.Repair.{IsAnswer, IsMended, IsMendedBy, IsRepair, accepts}
use Rattle.order_repair.specs.declared.answer.Change.{Change}
use Rattle.order_repair.specs.declared.answer.Change.TheVariants.{Add, Unfit}
use Rattle.order_repair.specs.declared.answer.Kept.{Kept}
use Rattle.order_repair.specs.declared.answer.Repair.TheVariants.{Keep, NoOrder}
use Rattle.order_repair.specs.declared.answer.WhyAnswer.{WhyAnswer}
use Rattle.comparison_guards.specs.Repairs.{ChangeIsAccepted}

none_kept : (kept chosen : List ℕ) → AllByRecursion (λ code. is_kept kept code ≡ false) (left_out chosen kept)
none_kept kept [] = tt
none_kept kept (code ∷ chosen) = by (is_kept kept code) refl (none_kept kept chosen)
  where
    by : (b : Bool) → is_kept kept code ≡ b → AllByRecursion (λ c. is_kept kept c ≡ false) (left_out chosen kept) → AllByRecursion (λ c. is_kept kept c ≡ false) (left_out (code ∷ chosen) kept)
    by true is more = rw is more
    by false is more = rw is (is, more)

module _ (b : Contents) (day : ℕ) (names : List (List ℕ)) (budget : ℕ) (a : WhyAnswer) (h : IsAnswer b day names budget a) where
  pub left_goes : (k : Kept) → a.repair ≡ Keep k → AllByRecursion (λ code. is_kept k.codes.items code ≡ false) k.left.items
  left_goes k is =
      let repair : IsRepair b day (places_of b.codes names) budget (accepts a.outcome) (Keep k) = subst (IsRepair b day (places_of b.codes names) budget (accepts a.outcome)) is h.repair in
      subst (AllByRecursion (λ code. is_kept k.codes.items code ≡ false)) (sym repair.1.left) (none_kept k.codes.items (places_of b.codes names))

  change_by : (kept : List ℕ) (change : Change) → IsMendedBy b day kept change → ChangeIsAccepted b day kept change
  change_by kept (Add added) mended = mended
  change_by kept (Unfit x unfit) mended = tt

  pub change_accepted : (k : Kept) → a.repair ≡ Keep k → ChangeIsAccepted b day k.codes.items k.change
  change_accepted k is = change_by k.codes.items k.change (subst (IsMended b day) is h.mends)

  pub none_ordered : (m : Blamed) → a.repair ≡ NoOrder m → (x : List Bool) → is_good b day x ≡ false
  none_ordered m is =
      let repair : IsRepair b day (places_of b.codes names) budget (accepts a.outcome) (NoOrder m) = subst (IsRepair b day (places_of b.codes names) budget (accepts a.outcome)) is h.repair in
      repair.1.void
