use Rattle.std.proofs.Common.{◌<◌, length, arith}
use Rattle.book_model.specs.declared.record.Slice.{Slice}
use Rattle.kept_requirements.proofs.CellLaws.{row_next}
use Rattle.kept_requirements.proofs.rows.rows_of.Goals as goal

pub loop-slice-preserved : goal.loop-slice-preserved
loop-slice-preserved c =
    let b = c.args.book.now in
    let budget = c.args.budget in
    let rs = c.args.requirements.now in
    let slices = c.args.slices.now in
    let k = c.loop-slice.slice-index in
    let none : Slice = record { first = 0; last = 0 } in
    let below : k < length slices = omega arith in
    rw c.in_ok-push.ensures.items (record {
      so_far = row_next b budget rs slices c.loop-slice.rows.items c.in_ok-row.row k none below c.loop-slice.invariant.so_far c.in_ok-row.ensures.cells;
      counted = c.in_ok-row.ensures.counted;
    })
