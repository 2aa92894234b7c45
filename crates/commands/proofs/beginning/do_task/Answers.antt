use Rattle.std.proofs.Common.{ap}
use Rattle.commands.specs.Words.{store_of}
use Rattle.commands.proofs.beginning.do_task.Goals as goal

pub returns-in-Book-clause-ended : goal.returns-in-Book-clause-ended
returns-in-Book-clause-ended g c = rw c.in-Book.is (c.answer-status.ensures _)

pub run_store-requires-clause-named : goal.run_store-requires-clause-named
run_store-requires-clause-named g c κs within = c.requires.named _ (ap store_of c.in-Desk.is)

pub returns-in-Desk-clause-ended : goal.returns-in-Desk-clause-ended
returns-in-Desk-clause-ended g c = rw c.in-Desk.is c.run_store.ensures

pub returns-in-Serve-clause-startable : goal.returns-in-Serve-clause-startable
returns-in-Serve-clause-startable g c = c.requires.named _ (ap store_of c.in-Serve.is)

pub run_rejudge-requires-clause-named : goal.run_rejudge-requires-clause-named
run_rejudge-requires-clause-named g c κs within = c.requires.named _ (ap store_of c.in-Rejudge.is)

pub returns-in-Rejudge-clause-ended : goal.returns-in-Rejudge-clause-ended
returns-in-Rejudge-clause-ended g c = rw c.in-Rejudge.is c.run_rejudge.ensures

pub run_impact-requires-clause-named : goal.run_impact-requires-clause-named
run_impact-requires-clause-named g c κs within = c.requires.named _ (ap store_of c.in-Impact.is)

pub returns-in-Impact-clause-ended : goal.returns-in-Impact-clause-ended
returns-in-Impact-clause-ended g c = rw c.in-Impact.is c.run_impact.ensures

pub returns-in-Sample-clause-ended : goal.returns-in-Sample-clause-ended
returns-in-Sample-clause-ended g c = rw c.in-Sample.is (c.tell_sample-status.ensures _)
