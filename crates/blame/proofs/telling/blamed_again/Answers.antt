use Rattle.std.proofs.Common.{subst, sym}
use Rattle.blame.specs.Blame.{IsNone}
use Rattle.blame.specs.Entries.{Among}
use Rattle.blame.proofs.ListLaws.{among_among}
use Rattle.blame.proofs.ToldLaws.{fit_among, few_among}
use Rattle.blame.proofs.telling.blamed_again.Goals as goal

pub look-requires-clause-fit : goal.look-requires-clause-fit
look-requires-clause-fit c =
    fit_among c.args.book.now c.args.day c.args.entries.items c.deref.result.now c.requires.fit
    (subst (Among c.args.entries.items) (sym c.deref.ensures.value) c.requires.used)

pub look-requires-clause-few : goal.look-requires-clause-few
look-requires-clause-few c =
    few_among c.args.entries.items c.deref.result.now c.requires.few (subst (Among c.args.entries.items) (sym c.deref.ensures.value) c.requires.used)

pub shrink_marked-requires-clause-fit : goal.shrink_marked-requires-clause-fit
shrink_marked-requires-clause-fit c =
    fit_among c.args.book.now c.args.day c.args.entries.items c.args.used.items c.requires.fit c.requires.used

pub shrink_marked-requires-clause-few : goal.shrink_marked-requires-clause-few
shrink_marked-requires-clause-few c = few_among c.args.entries.items c.args.used.items c.requires.few c.requires.used

pub shrink_marked-requires-clause-none : goal.shrink_marked-requires-clause-none
shrink_marked-requires-clause-none c =
    subst (IsNone c.args.book.now c.args.day c.args.rule.now) c.deref.ensures.value (rw c.in-NotShown.is at c.in_ok-looked.ensures)

pub returns-in_ok-blamed-in-NotShown-clause-among : goal.returns-in_ok-blamed-in-NotShown-clause-among
returns-in_ok-blamed-in-NotShown-clause-among c =
    among_among c.args.entries.items c.args.used.items c.in_ok-blamed-in-NotShown.blamed.entries.items c.requires.used
    c.in_ok-blamed-in-NotShown.ensures.among
