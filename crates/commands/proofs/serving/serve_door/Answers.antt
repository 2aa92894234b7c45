use Rattle.std.proofs.Common.{refl}
use Rattle.commands.proofs.Told.{served_by, same_end, told_as}
use Rattle.commands.proofs.serving.serve_door.Goals as goal

pub returns : goal.returns
returns g c = λ kept. (
  c.serve-how.result.how,
  record {
    new = c.serve-how.result.desk;
    faults = _;
    run = served_by _ _ _ _ _ _ _ _ _ _ _ c.links.ensures c.workers.ensures.value c.serve-how.ensures.runs;
    sure = c.serve-how.ensures.complete;
    valid = c.serve-how.ensures.valid;
    rows = c.finish.ensures.rows;
    count = c.finish.ensures.faults;
    middle = _;
    noted = rw c.deref.ensures.value at c.note_links.ensures;
    told =
        told_as c.end_reply-reply.result _ _ _ _ _ c.end_reply-reply.ensures
        (same_end c.serve-how.result.how _ _ _ _ _ _ _ _ _ _ c.counts.ensures.drafts c.counts.ensures.books c.counts.ensures.orders c.faults-first.ensures
        c.faults.ensures)
        c.tell_made-status.ensures;
    untouched = refl;
  },
)
