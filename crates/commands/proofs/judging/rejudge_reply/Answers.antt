use Rattle.std.proofs.lemmas.Result.{IfOk-weaker}
use Rattle.order_desk.specs.Tables.{book_at}
use Rattle.commands.specs.Rejudged.{RepliesAgain, RepliesToRejudge, no_book_reply}
use Rattle.commands.proofs.Stocked.{replies_found, replies_none}
use Rattle.commands.proofs.judging.rejudge_reply.Goals as goal

pub returns-in-Some : goal.returns-in-Some
returns-in-Some g c =
    let t = c.args.desk.now.tables in
    IfOk-weaker c.again_reply.result (RepliesAgain t c.in-Some.book.now.value.book) (RepliesToRejudge c.args.asked.now t)
    (λ reply h. replies_found _ t c.in-Some.book.now.value reply (rw c.book.ensures at (rw c.in-Some.is at c.book_at.ensures)) h) (rw c.deref-to.ensures at c.again_reply.ensures)

pub returns-in-None : goal.returns-in-None
returns-in-None g c =
    let t = c.args.desk.now.tables in
    IfOk-weaker c.no_book_reply.result _ (RepliesToRejudge c.args.asked.now t)
    (λ reply h. replies_none _ t reply (rw c.book.ensures at (rw c.in-None.is at c.book_at.ensures)) h) c.no_book_reply.ensures
