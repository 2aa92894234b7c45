use Rattle.std.proofs.Common.{subst, sym}
use Rattle.blame.specs.Blame.{IsNone}
use Rattle.blame.specs.Entries.{Among}
use Rattle.blame.proofs.ToldLaws.{fit_among, few_among, blamed_by}
use Rattle.blame.proofs.telling.blame_many.Goals as goal

pub blamed_of-requires-clause-none : goal.blamed_of-requires-clause-none
blamed_of-requires-clause-none c =
    subst (IsNone c.args.book.now c.args.day c.args.rule.now) c.deref.ensures.value (rw c.in-NotShown.is at c.in_ok-looked.ensures)

pub blamed_of-requires-clause-fit : goal.blamed_of-requires-clause-fit
blamed_of-requires-clause-fit c = fit_among c.args.book.now c.args.day c.args.all.now c.args.first.items c.requires.fit c.requires.among

pub blamed_of-requires-clause-few : goal.blamed_of-requires-clause-few
blamed_of-requires-clause-few c = few_among c.args.all.now c.args.first.items c.requires.few c.requires.among

pub returns-in_ok-blamed-in-NotShown : goal.returns-in_ok-blamed-in-NotShown
returns-in_ok-blamed-in-NotShown c =
    blamed_by c.args.book.now c.args.day c.args.rule.now c.args.budget c.args.chosen.now c.args.all.now c.args.first.items c.in_ok-blamed-in-NotShown.blamed
    c.requires.all c.requires.among c.in_ok-blamed-in-NotShown.ensures.among c.in_ok-blamed-in-NotShown.ensures.blame

pub look-requires-clause-fit : goal.look-requires-clause-fit
look-requires-clause-fit c =
    fit_among c.args.book.now c.args.day c.args.all.now c.deref.result.now c.requires.fit
    (subst (Among c.args.all.now) (sym c.deref.ensures.value) c.requires.among)

pub look-requires-clause-few : goal.look-requires-clause-few
look-requires-clause-few c =
    few_among c.args.all.now c.deref.result.now c.requires.few
    (subst (Among c.args.all.now) (sym c.deref.ensures.value) c.requires.among)
