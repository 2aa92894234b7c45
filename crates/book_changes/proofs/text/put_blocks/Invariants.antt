use Rattle.std.proofs.Common.{◌≡◌, ◌++◌, [], drop, take}
use Rattle.book_changes.specs.ChangesText.{blocks_text}
use Rattle.book_changes.proofs.text.put_blocks.Given as goal

abbrev pub invariant-loop-at : goal.invariant-loop-at
invariant-loop-at l = l.text ++ blocks_text l.first l.second l.budget (take l.at l.runs) (drop l.at l.runs) ≡ l.initial.text ++ blocks_text l.first l.second l.budget [] l.runs
