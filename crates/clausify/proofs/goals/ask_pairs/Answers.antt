use Rattle.std.proofs.Common.{◌+◌, ◌-◌, length, drop, take, arith}
use Rattle.std.proofs.lemmas.List.{length-drop, take_all}
use Rattle.clausify.proofs.Remaining.{pairs_with_step}
use Rattle.clausify.proofs.goals.ask_pairs.Goals as goal

pub loop-place-preserved : goal.loop-place-preserved
loop-place-preserved c =
    pairs_with_step c.args.encoder.now c.loop-place.encoder c.ask_with.new.encoder c.args.asked.now.items c.loop-place.asked.items c.ask_with.new.asked.items c.args.position c.loop-place.place
    c.args.usages.now (take (length c.args.usages.now - (c.loop-place.place + 1)) (drop (c.loop-place.place + 1) c.args.usages.now)) c.index-usages-place.result
    c.loop-place.invariant (omega arith) c.index-usages-place.is
    (take_all _ _ (omega (arith, length-drop (c.loop-place.place + 1) c.args.usages.now)))
    c.in_ok-ask_with.ensures.made c.in_ok-ask_with.ensures.asked
