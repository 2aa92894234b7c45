use Rattle.std.proofs.Common.{◌≡◌, ◌+◌, ◌-◌, ◌≤◌, ℕ, List, ◌∷◌, Some, length, drop, slice_index_or, refl, arith}
use Rattle.std.specs.Prelude.{slice_get}
use Rattle.std.proofs.lemmas.List.{drop_more}
use Rattle.std.proofs.lemmas.Option.{slice_get_read}
use Rattle.order_desk.specs.declared.kept_book.KeptBook.{KeptBook}
use Rattle.order_desk.specs.Rows.{book_rows}
use Rattle.order_desk.proofs.WithdrawnRows.{out_more, out_wrong}
use Rattle.order_desk.proofs.withdrawn_rows.withdraw_all.Goals.{then-form-ne2-via-then-form-ne2, then-form-ne2-via-else-form-ne2+then-number-last, then-form-ne2-via-else-form-ne2+else-number-last+then-number-len}
use Rattle.order_desk.proofs.withdrawn_rows.withdraw_all.Goals as goal

pub returns-then-form-ne2-clause-wrong : goal.returns-then-form-ne2-clause-wrong
returns-then-form-ne2-clause-wrong c =
    let numbers = c.args.numbers.now in
    let place = c.loop-place.place in
    let last = c.loop-place.last in
    let books = c.loop-place.books.items in
    let number : ℕ = slice_index_or numbers place 0 in
    let here : drop place numbers ≡ number ∷ drop (place + 1) numbers = drop_more numbers place 0 (omega arith) in
    out_wrong c.args.form (book_rows 1 c.args.books.now.items) numbers place last books c.loop-place.invariant number here
    (elim c.then-form-ne2.branch [
      | then-form-ne2-via-then-form-ne2 w ↦ grind (arith, w.if-form-ne2.true)
      | then-form-ne2-via-else-form-ne2+then-number-last w ↦ grind (arith, w.if-number-last.true)
      | then-form-ne2-via-else-form-ne2+else-number-last+then-number-len w ↦ grind (arith, w.if-number-len.true, w.len.ensures)
    ])

pub loop-place-preserved : goal.loop-place-preserved
loop-place-preserved c =
    let numbers = c.args.numbers.now in
    let place = c.loop-place.place in
    let last = c.loop-place.last in
    let books : List KeptBook = c.loop-place.books.items in
    let number : ℕ = slice_index_or numbers place 0 in
    let here : drop place numbers ≡ number ∷ drop (place + 1) numbers = drop_more numbers place 0 (omega arith) in
    let one : number ≤ length books = omega (arith, c.len.ensures) in
    let at : slice_get books (number - 1) ≡ Some c.index_mut.result.now = slice_get_read books (length books) (number - 1) c.index_mut.result.now refl (omega arith) c.index_mut.ensures.value in
    out_more c.args.form (book_rows 1 c.args.books.now.items) numbers place last books c.loop-place.invariant number c.index_mut.result.now here
    (omega arith) (omega arith) one at
