use Rattle.serve_tests.proofs.Ports.{two_back}
use Rattle.serve_tests.proofs.runs.orders_kept.Goals as goal

pub returns : goal.returns
returns g c = two_back _ c.in-Worked-Over.field-0 _ _ _ _ _ _ c.serve-how.new.door c.in-Worked-Over.is c.serve-how.ensures.runs
