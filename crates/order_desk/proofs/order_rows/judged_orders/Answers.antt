use Rattle.std.proofs.Common.{◌<◌, List, false, length, get_or, map, sym, subst, arith}
use Rattle.desk_words.specs.declared.order_words.OrderWords.{OrderWords}
use Rattle.keeper.specs.declared.rows.OrderRow.{OrderRow}
use Rattle.order_desk.specs.Judged.{IsJudged}
use Rattle.order_desk.specs.declared.kept_book.KeptBook.{KeptBook}
use Rattle.order_desk.specs.declared.order_key.OrderKey.{OrderKey}
use Rattle.order_desk.specs.Rows.{book_rows}
use Rattle.order_desk.proofs.OrderRows.{AreRead, orders_more, told_at}
use Rattle.order_desk.proofs.order_rows.judged_orders.Goals as goal

pub loop-row-preserved : goal.loop-row-preserved
loop-row-preserved c =
    let books = book_rows 1 c.args.books.now in
    let rows : List OrderRow = c.args.rows.items in
    let es : List (OrderKey × OrderWords) = c.loop-row.orders.entries in
    let rest : List OrderRow = c.pop_front.new.self.items in
    let read = c.in-Ok.read in
    subst (λ l. AreRead books rows l rest) (sym c.in_ok-insert-in-Ok.ensures.entries)
    (orders_more books rows es c.in-Some.row rest read.key read.order
    (subst (AreRead books rows es) c.in-Some.ensures.items c.loop-row.invariant)
    (record { right = c.in-Ok.ensures.right; said = c.in-Ok.ensures.row; named = c.in-Ok.ensures.named }))

pub bounds-told-place : goal.bounds-told-place
bounds-told-place c =
    let books = book_rows 1 c.args.books.now in
    let rows : List OrderRow = c.args.rows.items in
    let es : List (OrderKey × OrderWords) = c.loop-row.orders.entries in
    let rest : List OrderRow = c.pop_front.new.self.items in
    let low : length es < length c.args.told.now =
    (told_at books rows es c.in-Some.row rest (map (λ (b : KeptBook). b.released) c.args.books.now) c.args.told.now false
    (subst (AreRead books rows es) c.in-Some.ensures.items c.loop-row.invariant) c.requires.told).0 in
    omega (arith, low, c.len-place.ensures.len)

pub order_from-requires-clause-judged : goal.order_from-requires-clause-judged
order_from-requires-clause-judged c =
    let books = book_rows 1 c.args.books.now in
    let rows : List OrderRow = c.args.rows.items in
    let es : List (OrderKey × OrderWords) = c.loop-row.orders.entries in
    let rest : List OrderRow = c.pop_front.new.self.items in
    let releases = map (λ (b : KeptBook). b.released) c.args.books.now in
    subst (λ n. IsJudged releases c.in-Some.row (get_or c.args.told.now n false)) (sym c.len-place.ensures.len)
    (told_at books rows es c.in-Some.row rest releases c.args.told.now false
    (subst (AreRead books rows es) c.in-Some.ensures.items c.loop-row.invariant) c.requires.told).1
