use Rattle.std.proofs.Common.{◌<◌, length, map, subst, arith}
use Rattle.order_desk.specs.Judged.{IsJudged}
use Rattle.order_desk.specs.declared.kept_book.KeptBook.{KeptBook}
use Rattle.order_desk.proofs.OrderRows.{told_next}
use Rattle.order_desk.proofs.judging.judge_rows.Goals as goal

pub loop-row-preserved : goal.loop-row-preserved
loop-row-preserved c =
    let releases = map (λ (b : KeptBook). b.released) c.args.books.now in
    let rows = c.args.rows.now in
    let k = c.loop-row.row-index in
    let row = c.row-item.result in
    let below : k < length rows = omega arith in
    rw c.in_ok-push.ensures.items
    (told_next releases rows c.loop-row.told.items c.in_ok-accepted.accepted k row below c.loop-row.invariant
    (subst (λ r. IsJudged releases r c.in_ok-accepted.accepted) c.row-item.is c.in_ok-accepted.ensures))
