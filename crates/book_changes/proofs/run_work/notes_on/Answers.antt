use Rattle.std.proofs.Common.{◌<◌, length, arith}
use Rattle.book_model.specs.declared.record.Slice.{Slice}
use Rattle.book_changes.specs.Changes.{IsRun}
use Rattle.book_changes.proofs.RunLaws.{zip_more}
use Rattle.book_changes.proofs.run_work.notes_on.Goals as goal

pub loop-run-preserved : goal.loop-run-preserved
loop-run-preserved c =
    let none : Slice = record { first = 0; last = 0 } in
    let within : c.loop-run.run-index < length c.args.runs.now = omega arith in
    record {
      own = c.in_ok-note.ensures.own;
      others = c.in_ok-note.ensures.others;
      notes =
          zip_more (IsRun c.args.first.now.book c.args.second.now.book c.args.budget) c.args.runs.now c.loop-run.run-index none c.loop-run.notes.items c.push.new.self.items c.in_ok-note.note within
          c.loop-run.invariant.notes c.in_ok-note.ensures.notes c.in_ok-push.ensures.items;
    }
