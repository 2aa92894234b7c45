use Rattle.std.proofs.Common.{◌+◌, List, ◌∷◌, [], ◌++◌, ap, ◌∙◌, arith}
use Rattle.book_compare.specs.declared.place.Place.{Place}
use Rattle.book_compare.proofs.PackLaws.{packs_further}
use Rattle.book_compare.proofs.packs.packs_of.Goals as goal

pub loop-at-preserved : goal.loop-at-preserved
loop-at-preserved c =
    let places = c.args.places.now in
    let at = c.loop-at.at in
    let end = at + c.min.result in
    record {
      within = omega (arith, c.min.ensures);
      packs =
          packs_further places at end c.loop-at.packs.items c.push.new.self.items (omega arith) c.loop-at.invariant.packs
          (c.in_ok-push.ensures.items ∙ ap (λ (ps : List Place). c.loop-at.packs.items ++ ps ∷ []) (c.of.ensures ∙ c.in_ok-pack.ensures.items));
    }
