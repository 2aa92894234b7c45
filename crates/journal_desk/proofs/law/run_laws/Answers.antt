use Rattle.journal_desk.proofs.Whole.{whole_run, placed_found, start_again, opened_by}
use Rattle.journal_desk.proofs.law.run_laws.Goals as goal

pub returns-clause-whole_run : goal.returns-clause-whole_run
returns-clause-whole_run c = whole_run

pub returns-clause-answered : goal.returns-clause-answered
returns-clause-answered c = placed_found

pub returns-clause-started_again : goal.returns-clause-started_again
returns-clause-started_again c = start_again

pub returns-clause-opened : goal.returns-clause-opened
returns-clause-opened c = opened_by
