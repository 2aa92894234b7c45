use Rattle.std.proofs.Common.{map, take}
use Rattle.std.specs.List.{AllZip}
use Rattle.order_desk.specs.Judged.{IsJudged}
use Rattle.order_desk.proofs.judging.judge_rows.Given as goal

-- the rows so far are judged
abbrev pub invariant-loop-row : goal.invariant-loop-row
invariant-loop-row l = AllZip (IsJudged (map (λ b. b.released) l.books)) (take l.row-index l.rows) l.told.items
