use Rattle.std.proofs.Common.{refl}
use Rattle.blame.proofs.ListLaws.{among_among}
use Rattle.blame.proofs.ToldLaws.{fit_among, few_among, moved_among}
use Rattle.blame.proofs.telling.shrink_marked.Goals as goal

pub shrink_hinted-requires-clause-fit : goal.shrink_hinted-requires-clause-fit
shrink_hinted-requires-clause-fit c =
    fit_among c.args.book.now c.args.day c.args.entries.items c.in_ok-some.some.items c.requires.fit
    (moved_among c.args.entries.items c.deref.result.now c.in_ok-some.some.items c.in_ok-some.some.items c.deref.ensures.value refl c.in_ok-some.ensures)

pub shrink_hinted-requires-clause-few : goal.shrink_hinted-requires-clause-few
shrink_hinted-requires-clause-few c =
    few_among c.args.entries.items c.in_ok-some.some.items c.requires.few
    (moved_among c.args.entries.items c.deref.result.now c.in_ok-some.some.items c.in_ok-some.some.items c.deref.ensures.value refl c.in_ok-some.ensures)

pub returns-in-Some-clause-blame : goal.returns-in-Some-clause-blame
returns-in-Some-clause-blame c = rw c.in-Some.is at c.in_ok-found.ensures.blame

pub returns-in-Some-clause-among : goal.returns-in-Some-clause-among
returns-in-Some-clause-among c =
    among_among c.args.entries.items c.in_ok-some.some.items c.in-Some.blamed.entries.items
    (moved_among c.args.entries.items c.deref.result.now c.in_ok-some.some.items c.in_ok-some.some.items c.deref.ensures.value refl c.in_ok-some.ensures)
    (rw c.in-Some.is at c.in_ok-found.ensures.among)
