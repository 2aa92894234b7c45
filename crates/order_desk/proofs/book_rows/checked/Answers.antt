use Rattle.std.proofs.Common.{◌≡◌, length, map, sym, ap, subst, ◌∙◌, arith}
use Rattle.std.specs.List.{AllZip}
use Rattle.order_desk.specs.Checked.{IsChecked}
use Rattle.order_desk.specs.declared.checking.BookPlace.{BookPlace}
use Rattle.order_desk.proofs.CheckedRows.{as_many, rows_checked, written}
use Rattle.order_desk.proofs.book_rows.checked.Goals as goal

pub returns : goal.returns
returns g c =
    let places = c.in_ok-places.places in
    let old = c.deref_mut.result.now in
    let new = c.check.new.places in
    let many : length new ≡ places.len =
    omega (arith, as_many old new c.check.ensures, c.deref_mut.ensures.len) in
    subst (AllZip IsChecked c.args.rows.items) (sym (written places.len new places.items many))
    (rows_checked c.args.rows.items old new (ap (map (λ (p : BookPlace). p.row)) c.deref_mut.ensures.value ∙ c.in_ok-places.ensures) c.check.ensures)
