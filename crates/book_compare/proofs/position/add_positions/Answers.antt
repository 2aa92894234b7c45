use Rattle.std.proofs.Common.{arith}
use Rattle.book_compare.proofs.KeyRuns.{places_loop}
use Rattle.book_compare.proofs.position.add_positions.Goals as goal

pub loop-place-preserved : goal.loop-place-preserved
loop-place-preserved c =
    places_loop c.args.comparing.now.first.now c.args.comparing.now.second.now c.args.comparing.now.day c.args.asking.now c.loop-place.asking c.add_position.new.asking c.loop-place.goals.items c.push.new.self.items c.in_ok-lit.lit
    c.args.places.now c.loop-place.place-index c.place-item.result (omega arith) c.place-item.is c.loop-place.invariant c.in_ok-lit.ensures.made c.in_ok-lit.ensures.goal c.in_ok-push.ensures.items
