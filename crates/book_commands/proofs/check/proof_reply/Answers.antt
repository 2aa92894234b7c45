use Rattle.book_commands.proofs.TextLaws.{certificate_told, few_slices, refusal_told}
use Rattle.book_commands.proofs.check.proof_reply.Goals as goal

pub kept_back_reply-requires : goal.kept_back_reply-requires
kept_back_reply-requires g c = few_slices c.args.text.now c.clauses.result _ (rw c.in-Err-Refused.field-0-is at c.in-Err-Refused.ensures.refused)

pub returns-in-Ok : goal.returns-in-Ok
returns-in-Ok g c = certificate_told c.args.text.now c.args.budget.now _ _ c.plain.result (rw c.clauses.ensures.value at c.in-Ok.ensures.certified) c.plain.ensures

pub returns-in-Err-Refused : goal.returns-in-Err-Refused
returns-in-Err-Refused g c =
    refusal_told c.args.text.now c.args.budget.now _ c.kept_back_reply.result (rw (c.in-Err-Refused.field-0-is, c.clauses.ensures.value) at c.in-Err-Refused.ensures.refused) c.kept_back_reply.ensures
