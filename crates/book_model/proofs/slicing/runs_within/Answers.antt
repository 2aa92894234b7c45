use Rattle.book_model.proofs.Runs.{too_many, few_enough}
use Rattle.book_model.proofs.slicing.runs_within.Goals as goal

pub returns-then-days-gt-MOST_SLICES : goal.returns-then-days-gt-MOST_SLICES
returns-then-days-gt-MOST_SLICES c = too_many c.args.days.now c.args.last c.if-days-gt-MOST_SLICES.true

pub returns : goal.returns
returns c = few_enough c.args.days.now c.args.last c.in_ok-slices.slices.items c.if-days-gt-MOST_SLICES.false c.in_ok-slices.ensures
