use Rattle.book_commands.proofs.SampleLaws.{never_text, never_found, never_limit}
use Rattle.book_commands.proofs.SlicesTold.{few_told}
use Rattle.book_commands.proofs.sample.refused_reply.Goals as goal

pub undecided_reply-requires : goal.undecided_reply-requires
undecided_reply-requires c = let refusal = rw c.in-Undecided.is at c.requires.refusal in record { few = few_told _ _ refusal.0.report }

pub unreachable-requires : goal.unreachable-requires
unreachable-requires c = never_text _ _ _ c.requires.lawful (rw c.in-Text.is at c.requires.refusal)

pub unreachable-requires-in-Found : goal.unreachable-requires-in-Found
unreachable-requires-in-Found c = let refusal = rw c.in-Found.is at c.requires.refusal in never_found _ _ _ _ _ c.requires.lawful refusal.0 refusal.1

pub unreachable-requires-in-Limit : goal.unreachable-requires-in-Limit
unreachable-requires-in-Limit c = let refusal = rw c.in-Limit.is at c.requires.refusal in never_limit _ _ refusal.0 _ c.requires.lawful refusal.1 refusal.2
