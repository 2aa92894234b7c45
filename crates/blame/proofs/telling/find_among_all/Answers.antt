use Rattle.std.proofs.Common.{List, subst, ◌∙◌}
use Rattle.blame.specs.Blame.{IsGivenUp, IsNone}
use Rattle.blame.specs.declared.entries.Entry.{Entry}
use Rattle.blame.proofs.ListLaws.{among_self}
use Rattle.blame.proofs.ToldLaws.{blamed_by, car_by}
use Rattle.blame.proofs.telling.find_among_all.Goals as goal

pub blamed_of-requires-clause-none : goal.blamed_of-requires-clause-none
blamed_of-requires-clause-none c =
    subst (IsNone c.args.book.now c.args.day c.args.rule.now) c.deref.ensures.value (rw c.in-NotShown.is at c.in_ok-looked.ensures)

pub returns-in-Shown : goal.returns-in-Shown
returns-in-Shown c =
    car_by c.args.book.now c.args.day c.args.rule.now c.args.chosen.now c.deref.result.now c.in-Shown.car (c.deref.ensures.value ∙ c.requires.all) (rw c.in-Shown.is at c.in_ok-looked.ensures)

pub returns-in-Left : goal.returns-in-Left
returns-in-Left c =
    subst (λ (m : List Entry). IsGivenUp c.args.book.now c.args.rule.now m c.args.budget c.in-Left.learnt.clauses) (c.deref.ensures.value ∙ c.requires.all)
    (rw c.in-Left.is at c.in_ok-looked.ensures)

pub returns-in_ok-blamed-in-NotShown : goal.returns-in_ok-blamed-in-NotShown
returns-in_ok-blamed-in-NotShown c =
    blamed_by c.args.book.now c.args.day c.args.rule.now c.args.budget c.args.chosen.now c.args.all.items c.args.all.items c.in_ok-blamed-in-NotShown.blamed
    c.requires.all (among_self c.args.all.items) c.in_ok-blamed-in-NotShown.ensures.among c.in_ok-blamed-in-NotShown.ensures.blame
