use Rattle.std.proofs.Common.{List, subst}
use Rattle.book_compare.specs.Comparison.{AreNoted}
use Rattle.book_compare.specs.declared.place.Place.{Place}
use Rattle.book_compare.proofs.PlaceLaws.{compared}
use Rattle.book_compare.proofs.positions.compare_all_by.Goals as goal

pub returns : goal.returns
returns g c =
    let first = c.args.comparing.now.first.now in
    let second = c.args.comparing.now.second.now in
    let day = c.args.comparing.now.day in
    compared first second day c.args.budget c.in_ok-places.places.items c.in_ok-notes.notes.items c.in_ok-places.ensures
    (subst (λ (ps : List Place). AreNoted first second day c.args.budget ps c.in_ok-notes.notes.items) c.deref.ensures.value c.in_ok-notes.ensures)
