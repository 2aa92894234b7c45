use Rattle.std.proofs.Common.{length}
use Rattle.order_desk.proofs.DraftRows.{AreRead}
use Rattle.order_desk.proofs.draft_rows.drafts_of.Given as goal

abbrev pub invariant-loop-row : goal.invariant-loop-row
invariant-loop-row l = AreRead l.fn.rows.items l.drafts.entries l.rest.items

abbrev pub decreases-loop-row : goal.decreases-loop-row
decreases-loop-row l = length l.rest.items
