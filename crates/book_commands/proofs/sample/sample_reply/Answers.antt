use Rattle.book_commands.proofs.sample.sample_reply.Goals as goal

pub refused_reply-requires-clause-refusal : goal.refused_reply-requires-clause-refusal
refused_reply-requires-clause-refusal c =
    let refused = rw c.in-Err-Refused.field-0-is at c.in-Err-Refused.ensures.refused in
    rw (c.in_ok-text.ensures, c.start.ensures, c.codes_of.ensures.value) at refused
