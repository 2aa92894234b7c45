use Rattle.std.proofs.Common.{◌≡◌, List, [], ◌∷◌, ◌++◌, ◌+◌, ◌<◌, get_or, length, take, sym, subst, arith}
use Rattle.std.specs.List.{AllZip}
use Rattle.std.proofs.lemmas.List.{take_more}
use Rattle.std.proofs.lemmas.Slice.Zip.{all_zipped_more}
use Rattle.book_model.specs.declared.record.Slice.{Slice}
use Rattle.findings.specs.Checked.{IsChecked}
use Rattle.findings.proofs.slice_checks.add_checks.Goals as goal

pub loop-slice-preserved : goal.loop-slice-preserved
loop-slice-preserved c =
    let slices = c.args.slices.now in
    let k = c.loop-slice.slice-index in
    let is_checked = IsChecked c.args.book.now c.args.effort in
    let none : Slice = record { first = 0; last = 0 } in
    let s : Slice = get_or slices k none in
    let below : k < length slices = omega arith in
    let next : take (k + 1) slices ≡ take k slices ++ s ∷ [] = take_more slices k none below in
    record {
      checked =
          subst (λ (ss : List Slice). AllZip is_checked ss c.push.new.self.items) (sym next)
          (subst (AllZip is_checked (take k slices ++ s ∷ [])) (sym c.in_ok-push.ensures.items)
          (all_zipped_more is_checked (take k slices) c.loop-slice.checks.items s c.in_ok-checked.checked c.loop-slice.invariant.checked c.in_ok-checked.ensures.checked));
      earlier = c.in_ok-checked.ensures.earlier;
    }
