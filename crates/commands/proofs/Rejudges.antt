-- What is told of kept orders that were judged again, and its status.
use Rattle.std.proofs.Common.{◌≡◌, ◌∙◌, Result, Ok, Err, IfOk, refl, ap, inl, inr}
use Rattle.std.specs.Prelude.{◌⊎◌, Option, None, Some}
use Rattle.pb_base.specs.declared.answer.Memory.{Memory}
use Rattle.order_desk.specs.Tables.{Tables, book_at}
use Rattle.order_desk.specs.declared.kept_book.KeptBook.{KeptBook}
use Rattle.book_commands.specs.RunReply.{RunReply, due_of, memory_reply}
use Rattle.book_commands.specs.declared.run_status.RunStatus.{RunStatus}
use Rattle.book_commands.specs.declared.run_status.RunStatus.TheVariants as statuses
use Rattle.commands.specs.Rejudged.{RepliesBy, RepliesToRejudge}
use Rattle.command_words.specs.Rejudging.{Rejudging}

by_book : (book : Option KeptBook) (t : Tables) (reply : RunReply) (status : RunStatus) → RepliesBy book t reply → status ≡ reply.status
    → (status ≡ statuses.Done) ⊎ (status ≡ statuses.Faulty)
by_book (Some book) t reply status replies ends = inl (ends ∙ ap (λ (r : RunReply). r.status) replies.is)
by_book None t reply status replies ends = inr (ends ∙ ap (λ (r : RunReply). r.status) replies)

pub reply_status : (r : Rejudging) (t : Tables) (reply : RunReply) (status : RunStatus) → RepliesToRejudge r t reply → status ≡ reply.status
    → (status ≡ statuses.Done) ⊎ (status ≡ statuses.Faulty)
reply_status r t reply status replies ends = by_book (book_at t.books r.book) t reply status replies ends

-- a reply that was made, or want of memory
pub made_or_memory : (made : Result RunReply Memory) (P : RunReply → Type 0) → IfOk made P → P (due_of made) ⊎ (due_of made ≡ memory_reply)
made_or_memory (Ok reply) P h = inl h
made_or_memory (Err wanting) P h = inr refl
