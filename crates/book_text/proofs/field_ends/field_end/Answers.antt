use Rattle.std.proofs.Common.{arith}
use Rattle.book_text.proofs.LoadLemmas.{run_ends, run_goes_on}
use Rattle.book_text.proofs.field_ends.field_end.Goals as goal

pub loads-preserved : goal.loads-preserved
loads-preserved c = (
  omega (arith, c.loads.invariant.0),
  run_goes_on c.args.text.now c.loads.at 16 c.run_in_load-run.result c.loads.invariant.1 c.run_in_load-run.ensures (λ below. omega (arith, c.if-run-lt-LANES.false)),
)

pub returns-then-run-lt-LANES : goal.returns-then-run-lt-LANES
returns-then-run-lt-LANES c =
    run_ends c.args.text.now c.loads.at 16 c.run_in_load-run.result (omega (arith, c.loads.invariant.0)) c.loads.invariant.1 c.run_in_load-run.ensures c.if-run-lt-LANES.true
