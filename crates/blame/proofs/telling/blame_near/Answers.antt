use Rattle.std.proofs.Common.{◌∙◌}
use Rattle.blame.proofs.EntryLaws.{all_fit, all_few}
use Rattle.blame.proofs.telling.blame_near.Goals as goal

pub near_among-requires-clause-fit : goal.near_among-requires-clause-fit
near_among-requires-clause-fit c =
    all_fit c.args.book.now c.args.day c.args.chosen.now c.deref.result.now c.requires.chosen (c.deref.ensures.value ∙ c.in_ok-all.ensures)

pub near_among-requires-clause-few : goal.near_among-requires-clause-few
near_among-requires-clause-few c =
    all_few c.args.book.now c.args.day c.codes-codes.ensures.book c.args.chosen.now c.deref.result.now c.requires.few (c.deref.ensures.value ∙ c.in_ok-all.ensures)
