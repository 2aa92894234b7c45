use Rattle.std.proofs.Common.{◌<◌, List, length, subst, arith}
use Rattle.book_compare.specs.Comparison.{AreNoted, IsNotedAt}
use Rattle.book_compare.specs.declared.place.Place.{Place}
use Rattle.book_compare.proofs.PackLaws.{zip_next}
use Rattle.book_compare.proofs.packs.notes_on_each.Goals as goal

pub loop-pack-preserved : goal.loop-pack-preserved
loop-pack-preserved c =
    let b = c.args.comparing.now in
    let packs = c.args.packs.now in
    let k = c.loop-pack.pack-index in
    let below : k < length packs = omega arith in
    zip_next (IsNotedAt b.first.now b.second.now b.day c.args.budget) packs k c.pack-item.result c.loop-pack.each.items c.push.new.self.items c.of.result below c.pack-item.is c.loop-pack.invariant
    (rw c.of.ensures (subst (λ (ps : List Place). AreNoted b.first.now b.second.now b.day c.args.budget ps c.in_ok-own.own.items) c.as_slice.ensures c.in_ok-own.ensures))
    c.in_ok-push.ensures.items
