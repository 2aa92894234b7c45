use Rattle.std.proofs.Common.{arith}
use Rattle.turn_book.proofs.Counting.{counts}
use Rattle.turn_book.proofs.Histories.{history_append}
use Rattle.turn_book.proofs.steps.count.Goals as goal

pub fetch_add-requires : goal.fetch_add-requires
fetch_add-requires g c =
    let made = c.requires.step in (
      c.requires.table.0,
      omega (arith, c.requires.table.1),
      counts _ _ _ _ _ _ c.args.asked.now.value c.args.said.now.value made.0 _ _ c.requires.turn made.1 c.requires.noted.0 c.requires.noted.1
          (λ run. (run.0, history_append _ _ _ _ _ run.1 (made.2, made.3, tt))),
    )
