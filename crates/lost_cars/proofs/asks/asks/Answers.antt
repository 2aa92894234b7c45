use Rattle.std.proofs.Common.{◌<◌, length, get_or, arith}
use Rattle.std.specs.Option.{option_map, option_to_list}
use Rattle.inquiry.proofs.PartLaws.{part_noted}
use Rattle.lost_cars.specs.Asks.{IsPut, ask_with}
use Rattle.lost_cars.specs.declared.question.Question.TheVariants.{Fires}
use Rattle.lost_cars.proofs.AskLaws.{put_ruled}
use Rattle.lost_cars.proofs.asks.asks.Goals as goal

pub loop-question-preserved : goal.loop-question-preserved
loop-question-preserved c =
    let own = c.args.own.now in
    let other = c.args.other.now in
    let qs = c.args.questions.now in
    let i = c.loop-question.question-index in
    let q = get_or qs i (Fires 0) in
    let within : i < length qs = omega arith in
    part_noted (IsPut own other c.args.day) qs i (Fires 0) c.loop-question.asks.items c.put.new.asks.items (option_to_list (option_map (ask_with q) c.in_ok-rule.rule)) within
    c.loop-question.invariant (put_ruled own other c.args.day q c.in_ok-rule.rule c.in_ok-rule.ensures) c.in_ok-put.ensures
