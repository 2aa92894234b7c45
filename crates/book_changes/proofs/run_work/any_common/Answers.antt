use Rattle.book_changes.proofs.run_work.any_common.Goals as goal

pub returns-then-is_empty-clause-common : goal.returns-then-is_empty-clause-common
returns-then-is_empty-clause-common c = c.kept_common.ensures c.args.budget
