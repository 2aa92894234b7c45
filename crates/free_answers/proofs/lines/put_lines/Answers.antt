use Rattle.std.proofs.Common.{◌<◌, ◌++◌, length, arith}
use Rattle.free_answers.specs.FreeText.{lines_from}
use Rattle.free_answers.proofs.LineSteps.{lines_from-step}
use Rattle.free_answers.proofs.lines.put_lines.Goals as goal

pub loop-place-preserved : goal.loop-place-preserved
loop-place-preserved c =
    let in_range : c.loop-place.place < length c.args.codes.now = omega arith in
    lines_from-step c.args.completed.now c.args.states.now c.args.codes.now c.loop-place.place c.loop-place.text c.put_line.new.text (c.args.text.now ++ lines_from 0 c.args.completed.now c.args.states.now c.args.codes.now) in_range c.in_ok-put_line.ensures c.loop-place.invariant
