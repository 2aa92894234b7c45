use Rattle.journal_desk.proofs.OnePut.{one_put, order_placed}
use Rattle.journal_desk.proofs.Stopped.{found_after, started, order_found}
use Rattle.journal_desk.proofs.law.stop_laws.Goals as goal

pub returns-clause-one_put : goal.returns-clause-one_put
returns-clause-one_put c = one_put

pub returns-clause-moment : goal.returns-clause-moment
returns-clause-moment c = found_after

pub returns-clause-started : goal.returns-clause-started
returns-clause-started c = started

pub returns-clause-kept : goal.returns-clause-kept
returns-clause-kept c = order_found

pub returns-clause-placed : goal.returns-clause-placed
returns-clause-placed c = order_placed
