use Rattle.order_days.proofs.RunLaws.{fits_ok}
use Rattle.order_days.proofs.joining.run_on.Goals as goal

pub returns-in-Ok-clause-fits : goal.returns-in-Ok-clause-fits
returns-in-Ok-clause-fits c = fits_ok c.args.book.now c.args.names.now c.args.slice.now.first c.in-Ok.outcome c.codes-codes.ensures.book c.in-Ok.ensures
