use Rattle.answering.proofs.TableLaws.{draft_there}
use Rattle.answering.proofs.drafts.release_draft.Goals as goal

pub release_taken-requires-clause-there : goal.release_taken-requires-clause-there
release_taken-requires-clause-there g c =
    let asked = c.args.asked.now in
    draft_there asked.draft asked.revision c.in-Ok.taken _ c.in-Ok.ensures.tells
