use Rattle.std.proofs.Common.{◌≤◌, length, rules, arith}
use Rattle.order_added.proofs.PassLaws.{cutting_begun, cutting_more}
use Rattle.order_added.proofs.runs.round.Goals as goal

pub loop-end-init : goal.loop-end-init
loop-end-init c =
    let within : c.len-end.result ≤ length c.args.added.now.items = first_of (omega (arith, c.len-end.ensures), search rules) in
    cutting_begun c.args.judge.now c.args.added.now.items c.len-end.result within c.requires.passes

pub loop-end-preserved : goal.loop-end-preserved
loop-end-preserved c =
    cutting_more c.args.judge.now c.args.added.now.items c.loop-end.added.items c.take_run_out.new.added.items c.loop-end.end
    c.saturating_sub-at.result c.loop-end.invariant c.in_ok-take_run_out.ensures.passes c.in_ok-take_run_out.ensures.among c.in_ok-take_run_out.ensures.in_range
