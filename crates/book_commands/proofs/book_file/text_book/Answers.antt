use Rattle.book_commands.proofs.BookFileLaws.{refused_book}
use Rattle.book_commands.proofs.TextLaws.{few_slices}
use Rattle.book_commands.proofs.book_file.text_book.Goals as goal

pub kept_back_reply-requires : goal.kept_back_reply-requires
kept_back_reply-requires c = few_slices c.args.text.now _ _ (rw c.in-Err-Refused.field-0-is at c.in-Err-Refused.ensures.refused)

pub returns-in-Err-Refused : goal.returns-in-Err-Refused
returns-in-Err-Refused c =
    refused_book c.args.text.now _ c.kept_back_reply.result (rw (c.in-Err-Refused.field-0-is, c.of.ensures) at c.in-Err-Refused.ensures.refused) c.kept_back_reply.ensures
