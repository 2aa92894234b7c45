use Rattle.answering.proofs.CheckedLaws.{report_checked}
use Rattle.answering.proofs.drafts.judge_text.Goals as goal

pub returns-in-Ok : goal.returns-in-Ok
returns-in-Ok c = report_checked c.args.text.now c.args.budget _ _ c.reported.result c.in-Ok.ensures.reported c.reported.ensures
