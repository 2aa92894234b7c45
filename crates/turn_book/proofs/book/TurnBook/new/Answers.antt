use Rattle.std.proofs.Common.{[], ◌∷◌, Some, ◌∙◌, sym, ap, subst, arith}
use Rattle.turn_book.proofs.Ends.{opens_as}
use Rattle.turn_book.proofs.book.TurnBook.new.Goals as goal

pub new-requires : goal.new-requires
new-requires g c =
    let start_is = sym c.of.ensures in
    opens_as _ _ _ _ (c.in-Ok.ensures.ok ∙ ap (λ m. Some m ∷ []) start_is) (omega (arith, c.ranges.limit.fits)) (subst g.M.Machine.valid start_is c.requires.machine, tt)
