use Rattle.std.proofs.Common.{◌<◌, ◌++◌, ◌∙◌, Option, length, ap, option_and_then, Bor, arith}
use Rattle.order_days.specs.DaysText.{Built, built_by, run_text}
use Rattle.order_days.specs.declared.run.Run.{Run}
use Rattle.order_days.proofs.TextSteps.{runs_step, seen}
use Rattle.order_days.proofs.text.days_text.Goals as goal

pub loop-place-preserved : goal.loop-place-preserved
loop-place-preserved c =
    let runs = c.args.runs.now in
    let b = c.args.book.now in
    let inside : c.loop-place.place < length runs = omega arith in
    runs_step b runs c.loop-place.place c.index-runs-place.result c.loop-place.before c.latest-next.result c.loop-place.text c.put_run.new.text _ inside c.index-runs-place.is c.latest-next.ensures
    (c.in_ok-put_run.ensures
    ∙ ap (λ (o : Option Built). c.loop-place.text ++ run_text b o c.index-runs-place.result) (seen (λ (r : Bor Run). r.now) c.run_at.result ∙ ap (λ (o : Option Run). option_and_then built_by o) c.run_at.ensures))
    c.loop-place.invariant
