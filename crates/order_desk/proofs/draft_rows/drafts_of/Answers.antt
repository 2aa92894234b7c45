use Rattle.std.proofs.Common.{List, ℕ, sym, subst}
use Rattle.keeper.specs.declared.rows.DraftRow.{DraftRow}
use Rattle.order_desk.specs.declared.draft.Draft.{Draft}
use Rattle.order_desk.proofs.DraftRows.{AreRead, drafts_more}
use Rattle.order_desk.proofs.draft_rows.drafts_of.Goals as goal

pub loop-row-preserved : goal.loop-row-preserved
loop-row-preserved c =
    let es : List (List ℕ × Draft) = c.loop-row.drafts.entries in
    let rest : List DraftRow = c.pop_front.new.self.items in
    let read = c.in-Some-draft_from.read in
    subst (λ l. AreRead c.args.rows.items l rest) (sym c.in_ok-put_read-in-Some-draft_from.ensures)
    (drafts_more c.args.rows.items es c.in-Some.row rest read.name read.draft
    (subst (AreRead c.args.rows.items es) c.in-Some.ensures.items c.loop-row.invariant)
    c.in-Some-draft_from.ensures.0 c.in-Some-draft_from.ensures.1)
