use Rattle.std.proofs.Common.{◌+◌, ◌-◌, ◌<◌, length, drop, get_or, take, arith}
use Rattle.std.proofs.lemmas.List.{get_or_default, length-drop, take_all}
use Rattle.findings.proofs.QuestionSteps.{pairs_step}
use Rattle.findings.proofs.questions.put_pairs.Goals as goal

pub loop-place-preserved : goal.loop-place-preserved
loop-place-preserved c =
    let xs = c.args.variants.now in
    let k = c.loop-place.place in
    let below : k < length xs = omega arith in
    pairs_step c.args.position c.loop-place.questions.items c.put_with.new.questions.items _ xs (take (length xs - (k + 1)) (drop (k + 1) xs)) k (get_or xs k 0)
    below (get_or_default xs k 0 (get_or xs k 0) below)
    (take_all _ _ (omega (arith, length-drop (k + 1) xs)))
    c.loop-place.invariant c.in_ok-put_with.ensures
