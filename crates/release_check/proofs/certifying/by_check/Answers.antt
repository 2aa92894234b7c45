use Rattle.release_check.proofs.certifying.by_check.Goals as goal

pub returns-in-None-clause-refused : goal.returns-in-None-clause-refused
returns-in-None-clause-refused c text budget is = c.kept_back.ensures text budget is
