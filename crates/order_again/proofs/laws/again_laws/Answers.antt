use Rattle.order_again.proofs.AloneLaws.{alone, all_alone}
use Rattle.order_again.proofs.laws.again_laws.Goals as goal

pub returns : goal.returns
returns c = record { one = alone; all = all_alone }
