use Rattle.std.proofs.Common.{List, ◌∷◌, [], ◌++◌, ◌<◌, length, take, sym, ap, subst, ◌∙◌, arith}
use Rattle.std.proofs.lemmas.List.{take_more}
use Rattle.std.proofs.lemmas.Slice.Zip.{all_zipped_more}
use Rattle.derivation.specs.Showing.{AllClosed, Closes}
use Rattle.derivation.specs.declared.closing.ToClose.{ToClose}
use Rattle.slice_chains.proofs.short.close_again.Goals as goal

pub loop-number-preserved : goal.loop-number-preserved
loop-number-preserved c =
    let clauses = c.args.kernel.now.clauses in
    let asked = c.args.asked.now in
    let n = c.loop-number.number in
    let one : ToClose = c.index-asked-number.result in
    let so_far = take n asked in
    let below : n < length asked = omega arith in
    subst (λ (ws : List ToClose). AllClosed clauses ws c.push.new.self.items)
    (sym (take_more asked n one below ∙ ap (λ (w : ToClose). so_far ++ w ∷ []) (sym c.index-asked-number.is)))
    (subst (AllClosed clauses (so_far ++ one ∷ [])) (sym c.in_ok-push.ensures.items)
    (all_zipped_more (Closes clauses) so_far c.loop-number.closed.items one c.in-Some.closing c.loop-number.invariant c.in-Some.ensures))
