use Rattle.std.proofs.Common.{◌<◌, List, length, get_or, set, sym, subst, ◌∙◌, arith, below_more, get_or-set_same, get_or-set_other}
use Rattle.std.proofs.lemmas.List.{get_or_default}
use Rattle.order_desk.specs.Checked.{IsChecked}
use Rattle.order_desk.specs.declared.checking.BookPlace.{BookPlace}
use Rattle.order_desk.proofs.CheckedRows.{each_checked}
use Rattle.order_desk.proofs.checking.check_all.Goals as goal

pub loop-place-preserved : goal.loop-place-preserved
loop-place-preserved c =
    let k = c.loop-place.place-index in
    let xs : List BookPlace = c.args.places.now in
    let ys : List BookPlace = c.loop-place.places in
    let y = c.check_one.new.place in
    let low : k < length ys = omega arith in (
      λ j d h. get_or-set_other ys k j y d (λ e. omega arith) ∙ c.loop-place.invariant.0 j d (omega arith),
      λ j d h. below_more (λ i. IsChecked (get_or xs i d).row (get_or (set ys k y) i d)) k
          (λ i u. subst (IsChecked (get_or xs i d).row) (sym (get_or-set_other ys k i y d (λ e. omega arith))) (c.loop-place.invariant.1 i d u))
          (subst (IsChecked (get_or xs k d).row) (sym (get_or-set_same ys k y d low))
          (subst (λ (x : BookPlace). IsChecked x.row y) (get_or_default ys k _ d low ∙ c.loop-place.invariant.0 k d (omega arith)) c.check_one.ensures))
          j h,
    )

pub returns : goal.returns
returns c = each_checked c.args.places.now c.loop-place.places (omega arith) (λ k d low. c.loop-place.invariant.1 k d (omega (arith, low)))
