use Rattle.std.proofs.Common.{subst, sym}
use Rattle.serve_run.specs.Workers.{IsReady}
use Rattle.serve_run.proofs.Done.{done_from}
use Rattle.serve_run.proofs.worker.Worker.work.Goals as goal

pub returns-clause-done : goal.returns-clause-done
returns-clause-done g c =
    done_from c.args.book.now c.args.share _ _ (subst (IsReady c.args.book.now c.args.share) (sym c.self.view_is) c.requires.ready) c.in-Some.pass c.into_pass.result c.new-seat.result
    c.work-self-inside.new.turns (sym c.in-Some.ensures.value) c.new-seat.ensures c.into_pass.ensures.pass c.into_pass.ensures.seated c.replace-in-Some.ensures.after
    c.work-self-inside.ensures.works c.work-self-inside.ensures.steps
