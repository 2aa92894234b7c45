use Rattle.std.proofs.Common.{◌≡◌, ◌<◌, true, List, length, get_or, sym, ap, ap₂, ◌∙◌, arith}
use Rattle.book_model.specs.declared.record.Position.{Position}
use Rattle.chosen_parts.specs.Chosen.{chosen}
use Rattle.order_days.specs.Same.{are_same_uses}
use Rattle.order_days.proofs.PartSteps.{parts_more}
use Rattle.order_days.proofs.same.same_parts.Goals as goal

pub loop-place-preserved : goal.loop-place-preserved
loop-place-preserved c =
    let b = c.args.book.now in
    let p = c.position-item.result in
    let i = c.loop-place.place in
    let count : length c.positions-position-items.result.now ≡ length b.positions = ap length c.positions-position-items.ensures.value in
    let inside : i < length b.positions = omega arith in
    let is : p ≡ get_or b.positions i p = c.position-item.is ∙ ap (λ (ps : List Position). get_or ps i p) c.positions-position-items.ensures.value in
    let same : are_same_uses (chosen b c.args.one p.id c.args.x.now) (chosen b c.args.other p.id c.args.y.now) ≡ true =
    sym (ap₂ are_same_uses c.chosen_variant-here.ensures c.chosen_variant-there.ensures) ∙ sym c.same_choice.ensures ∙ c.if-not-same_choice.false in
    sym (parts_more (λ (q : Position). chosen b c.args.one q.id c.args.x.now) (λ (q : Position). chosen b c.args.other q.id c.args.y.now) b.positions i p inside is same)
    ∙ c.loop-place.invariant
