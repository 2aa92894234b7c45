use Rattle.blame.proofs.ToldLaws.{fit_among, few_among, hinted_by}
use Rattle.blame.proofs.telling.blame_some.Goals as goal

pub shrink_hinted-requires-clause-fit : goal.shrink_hinted-requires-clause-fit
shrink_hinted-requires-clause-fit c = fit_among c.args.book.now c.args.day c.args.all.now c.args.first.items c.requires.fit c.requires.among

pub shrink_hinted-requires-clause-few : goal.shrink_hinted-requires-clause-few
shrink_hinted-requires-clause-few c = few_among c.args.all.now c.args.first.items c.requires.few c.requires.among

pub returns : goal.returns
returns c =
    hinted_by c.args.book.now c.args.day c.args.rule.now c.args.budget c.args.chosen.now c.args.all.now c.args.first.items c.in_ok-found.found
    c.requires.all c.requires.among c.in_ok-found.ensures.among c.in_ok-found.ensures.blame
