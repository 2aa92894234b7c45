use Rattle.comparison_guards.proofs.PartsHave.{ok_map}
use Rattle.comparison_guards.proofs.RunLaws.{days_upward}
use Rattle.comparison_guards.proofs.runs.no_run_has_days_of_one_book_alone.Goals as goal

pub returns : goal.returns
returns g c =
    ok_map _ _ (λ notes h. days_upward c.args.first.now.book c.args.second.now.book c.args.budget notes.items h) c.changes.result c.changes.ensures.notes
