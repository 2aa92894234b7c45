use Rattle.std.proofs.Common.{List, length, get_or, ap, ◌∙◌, arith}
use Rattle.std.specs.Option.{option_to_list}
use Rattle.book_model.specs.declared.record.Position.{Position}
use Rattle.book_compare.proofs.PlaceLaws.{adds_none, first_more}
use Rattle.book_compare.proofs.positions.put_first.Goals as goal

pub loop-place-init : goal.loop-place-init
loop-place-init c = adds_none c.args.comparing.now.first.now c.args.comparing.now.second.now c.args.comparing.now.day c.args.places.now.items

pub loop-place-preserved : goal.loop-place-preserved
loop-place-preserved c =
    let i = c.loop-place.place in
    let p = c.position-item.result in
    first_more c.args.comparing.now.first.now c.args.comparing.now.second.now c.args.comparing.now.day c.args.comparing.now.first.now.positions i p c.args.places.now.items c.loop-place.places.items c.put.new.places.items (option_to_list c.in_ok-found.found)
    (omega (arith, ap length c.positions-position-items.ensures.value))
    (c.position-item.is ∙ ap (λ (ps : List Position). get_or ps i p) c.positions-position-items.ensures.value)
    c.loop-place.invariant c.in_ok-found.ensures c.in_ok-put.ensures
