use Rattle.std.proofs.Common.{◌<◌, ◌++◌, length, arith}
use Rattle.pb_base.specs.NamesText.{names_from}
use Rattle.pb_base.proofs.NamesText.{names_from-step}
use Rattle.pb_base.proofs.set_names.put_names.Goals as goal

pub loop-place-preserved : goal.loop-place-preserved
loop-place-preserved c =
    let in_range : c.loop-place.place < length c.args.codes.now = omega arith in
    names_from-step c.args.set.now c.args.codes.now c.loop-place.place c.loop-place.text c.put_name.new.text (c.args.text.now ++ names_from 0 c.args.set.now c.args.codes.now) in_range c.in_ok-put_name.ensures c.loop-place.invariant
