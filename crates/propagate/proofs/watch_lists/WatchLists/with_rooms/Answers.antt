use Rattle.propagate.proofs.BlockLaws.{all_empty}
use Rattle.propagate.proofs.watch_lists.WatchLists.with_rooms.Goals as goal

pub returns-clause-empty : goal.returns-clause-empty
returns-clause-empty c = λ code. all_empty _ _ code (c.loop-room.invariant.laid.empty code)
