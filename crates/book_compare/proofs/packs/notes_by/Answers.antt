use Rattle.std.proofs.Common.{List, sym, subst}
use Rattle.std.specs.List.{AllZip, flat_map}
use Rattle.book_compare.specs.Comparison.{AreNoted, IsNotedAt}
use Rattle.book_compare.specs.Packs.{notes_in}
use Rattle.book_compare.specs.declared.place.Place.{Place}
use Rattle.book_compare.proofs.PackLaws.{whole_of_each}
use Rattle.book_compare.proofs.packs.notes_by.Goals as goal

pub make_all-requires-clause-ready : goal.make_all-requires-clause-ready
make_all-requires-clause-ready g c κs lives = record { ready = c.requires.ready; some = c.requires.some; most = c.requires.most }

pub make_all-requires-clause-given : goal.make_all-requires-clause-given
make_all-requires-clause-given g c κs lives = λ k d low. tt

pub returns : goal.returns
returns g c =
    let b = c.args.comparing.now in
    let noted = AreNoted b.first.now b.second.now b.day c.args.budget in
    subst (noted c.args.places.now) (sym c.in_ok-notes.ensures)
    (subst (λ (ps : List Place). noted ps (flat_map notes_in c.in_ok-each.each.items)) c.in_ok-packs.ensures
    (whole_of_each (IsNotedAt b.first.now b.second.now b.day c.args.budget) c.in_ok-packs.packs.items c.in_ok-each.each.items
    (subst (λ (ps : List (List Place)). AllZip noted ps c.in_ok-each.each.items) c.deref.ensures.value c.in_ok-each.ensures)))
