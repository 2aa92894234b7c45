use Rattle.std.proofs.Common.{length, ap, ◌∙◌}
use Rattle.left_cars.proofs.SeenLaws.{none_seen_first}
use Rattle.left_cars.proofs.seen.none_seen.Goals as goal

pub returns : goal.returns
returns c =
    none_seen_first c.args.book.now c.args.day c.args.chosen.now _ c.len-codes.result (c.len-codes.ensures.value ∙ ap length c.codes.ensures.value)
    c.in_ok-with_it.ensures c.in_ok-without.ensures
